use Rattle.std.proofs.Common.{length}
use Rattle.plant_check.specs.Rules.{refused_flow}
use Rattle.plant_model.proofs.Passes.{Passed}
use Rattle.plant_check.proofs.feeds.check_stages.Given as goal

abbrev pub invariant-loop-i : goal.invariant-loop-i
invariant-loop-i g l = Passed (refused_flow l.rule (length l.stages)) l.stages l.i

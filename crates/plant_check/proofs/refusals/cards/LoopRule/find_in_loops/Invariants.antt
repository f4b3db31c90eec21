use Rattle.plant_check.specs.Rules.{refused_loop}
use Rattle.plant_check.proofs.CollectedRefusals.{Collected}
use Rattle.plant_check.proofs.refusals.cards.LoopRule.find_in_loops.Given as goal

abbrev pub invariant-loop-k : goal.invariant-loop-k
invariant-loop-k l = Collected (refused_loop l.self l.paths) l.loops l.k l.initial.refusals.items l.refusals.items

use Rattle.plant_model.specs.Refusals.{stage_out_of_range}
use Rattle.plant_model.proofs.Passes.{Passed}
use Rattle.plant_check.proofs.ranges.check_stages.Given as goal

abbrev pub invariant-loop-i : goal.invariant-loop-i
invariant-loop-i l = Passed stage_out_of_range l.stages l.i

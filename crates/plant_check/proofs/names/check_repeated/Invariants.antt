use Rattle.plant_model.specs.Refusals.{stage_name_twice}
use Rattle.plant_model.proofs.Passes.{Passed}
use Rattle.plant_check.proofs.names.check_repeated.Given as goal

abbrev pub invariant-loop-i : goal.invariant-loop-i
invariant-loop-i l = Passed (stage_name_twice l.stages) l.stages l.i

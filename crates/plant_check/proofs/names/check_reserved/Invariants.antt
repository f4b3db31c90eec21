use Rattle.plant_model.specs.Refusals.{bad_name}
use Rattle.plant_model.proofs.Passes.{Passed}
use Rattle.plant_check.proofs.names.check_reserved.Given as goal

abbrev pub invariant-loop-i : goal.invariant-loop-i
invariant-loop-i l = Passed bad_name l.stages l.i

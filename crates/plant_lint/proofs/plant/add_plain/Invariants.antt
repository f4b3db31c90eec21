use Rattle.plant_keys.specs.Faults.{plain}
use Rattle.plant_keys.specs.Found.{Finds}
use Rattle.plant_lint.proofs.plant.add_plain.Given as goal

abbrev pub invariant-loop-error : goal.invariant-loop-error
invariant-loop-error l = Finds l.initial.faults l.faults (plain l.yielded)

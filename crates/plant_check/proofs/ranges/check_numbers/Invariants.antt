use Rattle.plant_model.specs.Place.{key_of}
use Rattle.plant_model.specs.Refusals.{element_above}
use Rattle.plant_model.proofs.Passes.{Passed}
use Rattle.plant_check.proofs.ranges.check_numbers.Given as goal

abbrev pub invariant-loop-k : goal.invariant-loop-k
invariant-loop-k l = Passed (element_above (key_of l.table l.key) l.limit) l.items l.k

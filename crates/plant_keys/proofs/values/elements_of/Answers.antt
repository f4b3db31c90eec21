use Rattle.plant_keys.proofs.ValueLists.{elements_of-vec}
use Rattle.plant_keys.proofs.values.elements_of.Goals as goal

pub returns-in-Some : goal.returns-in-Some
returns-in-Some c = rw c.as_slice.ensures.value (elements_of-vec _ c.in-Some.values.now c.in-Some.ensures)

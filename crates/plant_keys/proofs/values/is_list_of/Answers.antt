use Rattle.std.proofs.Common.{sym, refl}
use Rattle.plant_keys.proofs.ValueLists.{is_list_of-vec, is_list_of-none}
use Rattle.plant_keys.proofs.values.is_list_of.Goals as goal

pub returns-in-Some : goal.returns-in-Some
returns-in-Some c =
    rw (is_list_of-vec _ _ c.in-Some.values.now c.in-Some.ensures, c.are_elements.ensures, c.as_slice.ensures.value) refl

pub returns-in-None : goal.returns-in-None
returns-in-None c = sym (is_list_of-none _ _ c.in-None.ensures)

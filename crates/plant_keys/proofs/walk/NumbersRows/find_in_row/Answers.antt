use Rattle.plant_keys.proofs.FoundFaults.{finds_none}
use Rattle.plant_keys.proofs.walk.NumbersRows.find_in_row.Goals as goal

pub returns-then-not-may_be_number : goal.returns-then-not-may_be_number
returns-then-not-may_be_number c =
    rw (← c.if-not-may_be_number.ensures) (c.add-then-not-may_be_number.ensures _ c.fault_of.ensures)

pub returns-else-not-may_be_number : goal.returns-else-not-may_be_number
returns-else-not-may_be_number c = rw (← c.if-not-may_be_number.ensures) (finds_none _)

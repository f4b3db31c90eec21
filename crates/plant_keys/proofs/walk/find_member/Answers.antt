use Rattle.plant_keys.proofs.walk.find_member.Goals as goal

pub returns-then-not-is_allowed : goal.returns-then-not-is_allowed
returns-then-not-is_allowed c =
    rw (← c.if-not-is_allowed.ensures, ← c.shown_key-key.ensures) (c.add-then-not-is_allowed.ensures _ c.fault_at.ensures)

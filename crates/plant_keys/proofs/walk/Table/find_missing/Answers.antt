use Rattle.plant_keys.proofs.walk.Table.find_missing.Goals as goal

pub returns-then-key : goal.returns-then-key
returns-then-key c = rw c.if-key.true (c.add-then-key.ensures _ c.fault_at.ensures)

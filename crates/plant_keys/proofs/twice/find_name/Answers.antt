use Rattle.plant_keys.proofs.twice.find_name.Goals as goal

pub returns-then-not-is_new : goal.returns-then-not-is_new
returns-then-not-is_new c = rw c.if-not-is_new.true (c.add-then-not-is_new.ensures _ c.name_twice.ensures)

use Rattle.plant_keys.proofs.flow.find_fed.Goals as goal

pub returns-then-not-later : goal.returns-then-not-later
returns-then-not-later c = rw c.if-not-later.true (c.add-then-not-later.ensures _ c.not_later.ensures)

use Rattle.plant_lint.proofs.GatheredNotes.{then_two}
use Rattle.plant_lint.proofs.unused.add_stage.Goals as goal

pub returns : goal.returns
returns c = then_two _ _ _ _ _ _ _ _ c.in_ok-add_if.ensures c.in_ok-add_if-2.ensures c.add_if-3.ensures

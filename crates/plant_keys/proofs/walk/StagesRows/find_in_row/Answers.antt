use Rattle.plant_keys.proofs.FoundFaults.{finds_both}
use Rattle.plant_keys.proofs.walk.StagesRows.find_in_row.Goals as goal

pub returns : goal.returns
returns c =
    rw (← c.tables_at.ensures, ← c.stage_keys.ensures) (finds_both _ _ _ _ _ c.find.ensures c.find_in_rows.ensures)

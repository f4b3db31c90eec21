use Rattle.std.proofs.Common.{refl}
use Rattle.plant_keys.specs.Walk.{walk_faults}
use Rattle.plant_keys.proofs.FoundFaults.{finds_both}
use Rattle.plant_keys.proofs.walk.find_in_tree.Goals as goal

pub returns-then-is_done : goal.returns-then-is_done
unfolding walk_faults
returns-then-is_done c = c.if-is_done.ensures refl _

pub returns : goal.returns
unfolding walk_faults
returns c =
    rw
    (← c.top_keys.ensures, ← c.tables_at.ensures, ← c.has_stage_cards-with_cards.ensures, ← c.tables_at-2.ensures)
    (finds_both _ _ _ _ _ c.find.ensures (finds_both _ _ _ _ _ c.find_in_rows.ensures c.find_in_rows-2.ensures))

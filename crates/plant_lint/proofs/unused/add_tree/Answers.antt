use Rattle.std.specs.Prelude.{string_bytes, codes}
use Rattle.toml.specs.View.{view}
use Rattle.plant_keys.specs.Keys.{has_stage_cards}
use Rattle.plant_keys.specs.Readers.{tables_at}
use Rattle.plant_lint.specs.Unused.{unused_at_top, unused_in_stage, is_kanban, unused_lines}
use Rattle.plant_lint.proofs.GatheredNotes.{all_of_rows, then_more}
use Rattle.plant_lint.proofs.unused.add_tree.Goals as goal

pub returns : goal.returns
unfolding unused_lines
returns c =
    let top = view c.args.top.now in
    rw (all_of_rows (unused_in_stage (has_stage_cards top) (is_kanban top)) (tables_at (codes "stage") top) c.tables_at.result.now c.tables_at.ensures, ← c.has_stage_cards-with_cards.ensures, ← c.is_kanban-without_stock.ensures)
    (then_more _ (string_bytes c.args.text.now) (string_bytes c.add_top.new.text) _ (unused_at_top top) _ c.in_ok-add_top.ensures c.add_stages.ensures)

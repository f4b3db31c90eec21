-- Rows of the curve of a small plant, against texts by hand.
use Rattle.std.specs.Prelude.{◌≡◌, ℕ, List, [], ◌∷◌, codes, refl}
use Rattle.std.specs.Fmt.{digits}
use Rattle.plant_model.specs.Graph.{graph, labels}
use Rattle.plant_model.proofs.TwoStage.{kanban_line, kanban_dates}
use Rattle.event_graph.specs.Table.{date_in}
use Rattle.event_graph.specs.GreatestValue.{greatest}
use Rattle.card_sizing.specs.Sized.{sized_plant}
use Rattle.line_stats.specs.Counts.{count_until, in_process, in_move, in_stock, last_date, waiting}
use Rattle.line_summary.specs.Figures.{figures}
use Rattle.line_summary.specs.Thousandths.{nearest, decimal_text}
use Rattle.line_summary.specs.OverTime.{sum_until, parts_sum}
use Rattle.line_summary.specs.Waits.{most_wait, worst_job}
use Rattle.line_summary.specs.CurveText.{too_few_row, dead_row, figures_row, rows_from}
use Rattle.line_summary.specs.declared.point.Point.TheVariants.{TooFew, Dead, Alive}

-- its dates with two cards at each stage, where both stages release and the last delivers at the same dates
abbrev with_two : List (List ℕ)
with_two =
    let released = 0 ∷ 2 ∷ 5 ∷ [] in
    (0 ∷ 2 ∷ 4 ∷ []) ∷ released ∷ (3 ∷ 6 ∷ 9 ∷ []) ∷ released ∷ (5 ∷ 10 ∷ 15 ∷ []) ∷ released ∷ []

rows :
    rows_from 0 (Dead ∷ Alive (figures (sized_plant kanban_line 1) (date_in kanban_dates)) ∷ Alive (figures (sized_plant kanban_line 2) (date_in with_two)) ∷ [])
    ≡ codes "cards 0 dead\ncards 1 last 15 throughput 0.200 wait mean 3.000 most 6 wip mean 2.000\ncards 2 last 15 throughput 0.200 wait mean 0.333 most 1 wip mean 4.000\n"
unfolding dead_row figures_row figures sized_plant waiting most_wait worst_job parts_sum sum_until in_process in_move in_stock count_until last_date greatest graph labels nearest decimal_text digits
rows = refl

few : rows_from 9 (TooFew ∷ []) ≡ codes "cards 9 too few\n"
unfolding too_few_row digits
few = refl

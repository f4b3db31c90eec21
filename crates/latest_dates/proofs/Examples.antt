-- The latest dates of a small plant and their text, against what was written by hand.
use Rattle.std.specs.Prelude.{◌≡◌, ℕ, zero, suc, List, [], ◌∷◌, Option, None, Some, codes, map, slice_index_or, refl}
use Rattle.std.specs.Fmt.{digits}
use Rattle.plant_model.specs.Graph.{graph, labels, rows, times}
use Rattle.plant_model.proofs.TwoStage.{kanban_line, kanban_dates}
use Rattle.event_graph.specs.Network.{demand, delay, time, outs}
use Rattle.event_graph.specs.Term.{work}
use Rattle.event_graph.specs.Table.{date_in}
use Rattle.latest_dates.specs.Latest.{LatestTable, earliest, promised_date, bound, earliest_bound}
use Rattle.latest_dates.specs.LatestText.{latest_line, is_tight, station_lines, tight_at, all_lines, tight_count, latest_text}

-- the table of these rows
abbrev late_in : List (List (Option ℕ)) → LatestTable
late_in rows t zero = None
late_in rows t (suc n) = slice_index_or (slice_index_or rows t []) n None

abbrev one_late : ℕ → List (Option ℕ)
one_late date = Some date ∷ None ∷ None ∷ []

abbrev two_late : ℕ → ℕ → List (Option ℕ)
two_late date next = Some date ∷ Some next ∷ None ∷ []

abbrev delivered : List (Option ℕ)
delivered = Some 0 ∷ Some 5 ∷ Some 10 ∷ []

-- the latest dates with which no customer waits longer than 6
abbrev latest_rows : List (List (Option ℕ))
latest_rows = delivered ∷ one_late 2 ∷ one_late 5 ∷ two_late 0 5 ∷ two_late 5 10 ∷ delivered ∷ []

abbrev found : ℕ → List (Option ℕ)
found t = map (earliest_bound (graph kanban_line) 6 (late_in latest_rows) t) (1 ∷ 2 ∷ 3 ∷ [])

dates_are_latest : map found (0 ∷ 1 ∷ 2 ∷ 3 ∷ 4 ∷ 5 ∷ []) ≡ latest_rows
unfolding earliest_bound earliest promised_date bound graph labels rows times demand delay time outs work
dates_are_latest = refl

text :
    latest_text (graph kanban_line) (date_in kanban_dates) (late_in latest_rows)
    ≡ codes "cut 1 2 slack 2\ncut 2 none\ncut 3 none\ncut.saw 1 5 slack 2\ncut.saw 2 none\ncut.saw 3 none\nweld 1 0 slack 0\nweld 2 5 slack 0\nweld 3 none\nweld.torch 1 5 slack 0\nweld.torch 2 10 slack 0\nweld.torch 3 none\ndeliver 1 0 slack 0\ndeliver 2 5 slack 0\ndeliver 3 10 slack 0\ntight 7\n"
unfolding latest_text all_lines station_lines latest_line tight_count tight_at is_tight graph labels digits
text = refl

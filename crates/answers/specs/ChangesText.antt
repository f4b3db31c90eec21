-- What `whatif` writes of a sheet: `LABEL N OLD NEW` for each date that differs from the table's, in the order of
-- stations and then jobs, and `changed C` with their number.
use Rattle.std.specs.Prelude.{ℕ, ◌==◌, if◌then◌else◌, List, [], ◌∷◌, ◌++◌, length, codes, decimal}
use Rattle.std.specs.List.{flat_map, range_with_len}
use Rattle.event_graph.specs.Network.{stations, jobs, label}
use Rattle.event_graph.specs.Table.{date_in}
use Rattle.what_if.specs.Page.{Page, date_at}

-- a job at the station with this label, with the date of the table and the present one
abbrev pub change_line : List ℕ → ℕ → ℕ → ℕ → List ℕ
change_line label n old new =
    label ++ (codes " " ++ (decimal n ++ (codes " " ++ (decimal old ++ (codes " " ++ (decimal new ++ codes "\n"))))))

-- the line of a date, where the present one is another
abbrev pub lines_of_dates : List ℕ → ℕ → ℕ → ℕ → List (List ℕ)
lines_of_dates label n old new = if old == new then [] else change_line label n old new ∷ []

-- the line of job n at station t, if its date differs
unfoldable pub lines_of_date : Page → ℕ → ℕ → List (List ℕ)
lines_of_date p t n = lines_of_dates (label p.live.graph t) n (date_in p.first t n) (date_at p t n)

-- the lines of station t, and of all stations
unfoldable pub lines_of_station : Page → ℕ → List (List ℕ)
lines_of_station p t = flat_map (lines_of_date p t) (range_with_len 1 (jobs p.live.graph))

unfoldable pub change_lines : Page → List (List ℕ)
change_lines p = flat_map (lines_of_station p) (range_with_len 0 (stations p.live.graph))

-- lines one after the other
abbrev pub joined_lines : List (List ℕ) → List ℕ
joined_lines lines = flat_map (λ line. line) lines

-- how many lines there are
abbrev pub changed_line : ℕ → List ℕ
changed_line count = codes "changed " ++ (decimal count ++ codes "\n")

-- the lines of all dates that differ, and how many these are
unfoldable pub changes_text : Page → List ℕ
changes_text p = joined_lines (change_lines p) ++ changed_line (length (change_lines p))

-- What `latest` writes: for each station but the feed and each job `LABEL N LATEST slack S`, or `LABEL N none`; last
-- `tight K`, how many of them have a slack of 0.
use Rattle.std.specs.Prelude.{ℕ, ◌-◌, ◌==◌, Bool, false, List, ◌++◌, Option, None, Some, count_by, sum_by, codes, decimal}
use Rattle.std.specs.List.{flat_map, range_with_len}
use Rattle.line_base.specs.declared.event.Parts.{Parts}
use Rattle.event_graph.specs.Network.{stations, jobs, label}
use Rattle.event_graph.specs.Table.{Table}
use Rattle.latest_dates.specs.Latest.{LatestTable}

-- how much later than its date a job may be, and the end of its line
abbrev pub slack_words : Option ℕ → ℕ → List ℕ
slack_words None date = codes "none\n"
slack_words (Some latest) date = decimal latest ++ (codes " slack " ++ (decimal (latest - date) ++ codes "\n"))

-- the line of job n at the station with this label
abbrev pub line_words : List ℕ → ℕ → Option ℕ → ℕ → List ℕ
line_words label n latest date = label ++ (codes " " ++ (decimal n ++ (codes " " ++ slack_words latest date)))

-- whether the slack is 0
abbrev pub has_no_slack : Option ℕ → ℕ → Bool
has_no_slack None date = false
has_no_slack (Some latest) date = latest - date == 0

unfoldable pub latest_line : Parts → Table → LatestTable → ℕ → ℕ → List ℕ
latest_line g x y t n = line_words (label g t) n (y t n) (x t n)

unfoldable pub is_tight : Table → LatestTable → ℕ → ℕ → Bool
is_tight x y t n = has_no_slack (y t n) (x t n)

-- the lines of all jobs at station t, and how many of them have no slack
unfoldable pub station_lines : Parts → Table → LatestTable → ℕ → List ℕ
station_lines g x y t = flat_map (latest_line g x y t) (range_with_len 1 (jobs g))

unfoldable pub tight_at : Parts → Table → LatestTable → ℕ → ℕ
tight_at g x y t = count_by (is_tight x y t) (range_with_len 1 (jobs g))

-- the lines of all stations but the feed, and how many of them have no slack
unfoldable pub all_lines : Parts → Table → LatestTable → List ℕ
all_lines g x y = flat_map (station_lines g x y) (range_with_len 1 (stations g - 1))

unfoldable pub tight_count : Parts → Table → LatestTable → ℕ
tight_count g x y = sum_by (tight_at g x y) (range_with_len 1 (stations g - 1))

unfoldable pub latest_text : Parts → Table → LatestTable → List ℕ
latest_text g x y = all_lines g x y ++ (codes "tight " ++ (decimal (tight_count g x y) ++ codes "\n"))

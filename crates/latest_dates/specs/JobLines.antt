-- The lines of some jobs of a station, which are formatted at once.
use Rattle.std.specs.Prelude.{ℕ, ◌+◌, List, count_by}
use Rattle.std.specs.List.{flat_map, range_with_len}
use Rattle.line_base.specs.declared.event.Parts.{Parts}
use Rattle.event_graph.specs.Table.{Table}
use Rattle.latest_dates.specs.Latest.{LatestTable}
use Rattle.latest_dates.specs.LatestText.{latest_line, is_tight}

-- the lines of this many jobs of station t behind the first few, and how many of them have no slack
unfoldable pub job_lines : Parts → Table → LatestTable → ℕ → ℕ → ℕ → List ℕ
job_lines g x y t before count = flat_map (latest_line g x y t) (range_with_len (before + 1) count)

unfoldable pub tight_jobs : Table → LatestTable → ℕ → ℕ → ℕ → ℕ
tight_jobs x y t before count = count_by (is_tight x y t) (range_with_len (before + 1) count)

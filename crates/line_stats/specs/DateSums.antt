-- The sum of all dates of a table, by which two runs are compared.
use Rattle.std.specs.Prelude.{ℕ, sum_by}
use Rattle.std.specs.List.{range_with_len}
use Rattle.line_base.specs.declared.event.Parts.{Parts}
use Rattle.event_graph.specs.Network.{stations}
use Rattle.event_graph.specs.Table.{Table}
use Rattle.line_stats.specs.Counts.{job_numbers}

-- the sum of the dates of all jobs at all stations
unfoldable pub date_total : Parts → Table → ℕ
date_total g x = sum_by (λ t. sum_by (x t) (job_numbers g)) (range_with_len 0 (stations g))

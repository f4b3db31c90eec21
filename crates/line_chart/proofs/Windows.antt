-- The last date of a table is early, so a window that ends there is one.
use Rattle.std.proofs.Common.{◌≤◌}
use Rattle.std.specs.List.{range_with_len}
use Rattle.event_graph.specs.Network.{stations}
use Rattle.event_graph.specs.Table.{date_in}
use Rattle.event_graph.specs.GreatestValue.{greatest}
use Rattle.event_graph.proofs.Greatest.{greatest-le}
use Rattle.line_core.specs.Run.{Dates, IsLeastTable}
use Rattle.line_stats.specs.Counts.{job_numbers, last_date}

pub last-early : (d : Dates) → IsLeastTable d → last_date d.graph (date_in d.rows) ≤ 2_001_000_000_000_000
unfolding last_date
last-early d table =
    greatest-le (λ t. greatest (date_in d.rows t) (job_numbers d.graph)) (range_with_len 0 (stations d.graph)) 2_001_000_000_000_000 (λ k e below.
    greatest-le (date_in d.rows _) (job_numbers d.graph) 2_001_000_000_000_000 (λ m f inside. table.early _ _))

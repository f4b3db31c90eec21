use Rattle.std.proofs.Common.{◌≡◌}
use Rattle.std.specs.List.{range_with_len}
use Rattle.event_graph.specs.Table.{date_in}
use Rattle.event_graph.specs.GreatestValue.{greatest}
use Rattle.line_stats.specs.Counts.{job_numbers}
use Rattle.line_stats.proofs.totals.last.Given as goal

abbrev pub invariant-loop-t : goal.invariant-loop-t
invariant-loop-t l =
    l.last ≡ greatest (λ t. greatest (date_in l.table.rows t) (job_numbers l.table.graph)) (range_with_len 0 l.t)

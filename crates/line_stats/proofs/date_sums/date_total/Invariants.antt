use Rattle.std.proofs.Common.{◌≡◌, ◌*◌, ◌^◌, ◌≤◌}
use Rattle.std.specs.List.{sum_by, range_with_len}
use Rattle.event_graph.specs.Table.{date_in}
use Rattle.line_stats.specs.Counts.{job_numbers}
use Rattle.line_stats.proofs.date_sums.date_total.Given as goal

abbrev pub invariant-loop-t : goal.invariant-loop-t
invariant-loop-t l =
    let x = date_in l.table.rows in
    (l.total ≡ sum_by (λ t. sum_by (x t) (job_numbers l.table.graph)) (range_with_len 0 l.t)) × (l.total ≤ l.t * (20_000 * 2 ^ 64))

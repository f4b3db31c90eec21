use Rattle.std.proofs.Common.{◌≡◌, ◌-◌, ◌*◌, ◌^◌, ◌≤◌}
use Rattle.std.specs.List.{sum_by, range_with_len}
use Rattle.event_graph.specs.Network.{stations}
use Rattle.event_graph.specs.Table.{date_in}
use Rattle.line_stats.proofs.totals.waiting_total.Given as goal

abbrev pub invariant-loop-job : goal.invariant-loop-job
invariant-loop-job l =
    let x = date_in l.table.rows in
    (l.waiting ≡ sum_by (λ n. x (stations l.table.graph - 1) n - x 0 n) (range_with_len 1 l.job)) × (l.waiting ≤ l.job * 2 ^ 64)

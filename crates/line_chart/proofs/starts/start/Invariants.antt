use Rattle.std.proofs.Common.{◌≡◌, ◌≤◌, take}
use Rattle.std.specs.List.{filter}
use Rattle.event_graph.specs.Network.{arc}
use Rattle.event_graph.specs.Table.{date_in}
use Rattle.event_graph.specs.Term.{token_date}
use Rattle.event_graph.specs.GreatestValue.{greatest}
use Rattle.line_chart.proofs.starts.start.Given as goal

-- the greatest token of the worked arcs before
abbrev pub invariant-loop-a : goal.invariant-loop-a
invariant-loop-a l =
    (l.start
    ≡ greatest (λ a. token_date l.graph (date_in l.table.rows) a l.n) (filter (λ a. (arc l.graph a).worked) (take l.a-index l.a-items)))
    × (l.start ≤ 2_002_000_000_000_000)

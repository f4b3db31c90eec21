use Rattle.std.proofs.Common.{◌≡◌, drop, max}
use Rattle.event_graph.specs.GreatestValue.{greatest}
use Rattle.what_if.proofs.Walks.{asks}
use Rattle.what_if.proofs.sheet.Sheet.greatest_term.Given as goal

abbrev pub invariant-loop-a : goal.invariant-loop-a
invariant-loop-a l =
    max l.latest (greatest (asks l.self l.n) (drop l.a-index l.a-items)) ≡ greatest (asks l.self l.n) l.a-items

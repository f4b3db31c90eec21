use Rattle.std.proofs.Common.{◌≡◌}
use Rattle.event_graph.proofs.ArcNumbers.{first_lists}
use Rattle.event_graph.proofs.lists.arcs_by_station.Given as goal

abbrev pub invariant-loop-number : goal.invariant-loop-number
invariant-loop-number l = l.lists ≡ first_lists l.end l.parts l.number

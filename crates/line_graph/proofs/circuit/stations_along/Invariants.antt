use Rattle.std.proofs.Common.{◌≡◌, ◌<◌, take}
use Rattle.std.specs.Prelude.{All}
use Rattle.event_graph.specs.Network.{stations}
use Rattle.event_graph.specs.Circuit.{starting_stations}
use Rattle.line_graph.proofs.circuit.stations_along.Given as goal

abbrev pub invariant-loop-a : goal.invariant-loop-a
invariant-loop-a l = record {
  along : l.stations.items ≡ starting_stations l.graph (take l.a-index l.arcs);
  exist : All (λ t. t < stations l.graph) l.stations.items;
}

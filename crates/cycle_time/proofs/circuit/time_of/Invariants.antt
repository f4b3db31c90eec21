use Rattle.std.proofs.Common.{◌≡◌, ◌*◌, ◌≤◌, take}
use Rattle.event_graph.specs.Circuit.{time_along}
use Rattle.cycle_time.proofs.circuit.time_of.Given as goal

abbrev pub invariant-loop-a : goal.invariant-loop-a
invariant-loop-a l = record {
  time : l.time ≡ time_along l.graph (take l.a-index l.arcs);
  small : l.time ≤ l.a-index * 2_000_000_000;
}

use Rattle.std.proofs.Common.{◌≡◌, ◌*◌, ◌≤◌, take}
use Rattle.event_graph.specs.Circuit.{tokens_on}
use Rattle.cycle_time.proofs.circuit.tokens_of.Given as goal

abbrev pub invariant-loop-a : goal.invariant-loop-a
invariant-loop-a l = record {
  tokens : l.tokens ≡ tokens_on l.graph (take l.a-index l.arcs);
  small : l.tokens ≤ l.a-index * 10_000;
}

use Rattle.std.proofs.Common.{take}
use Rattle.event_graph.specs.Circuit.{IsWalk}
use Rattle.cycle_time.proofs.circuit.lead_back.Given as goal

abbrev pub invariant-loop-a : goal.invariant-loop-a
invariant-loop-a l = IsWalk l.graph l.start (take l.a-index l.arcs) l.at

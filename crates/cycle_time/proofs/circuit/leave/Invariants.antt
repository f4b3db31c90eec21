use Rattle.std.proofs.Common.{◌≢◌, ℕ, ◌<◌, get_or}
use Rattle.event_graph.specs.Network.{arc}
use Rattle.cycle_time.proofs.circuit.leave.Given as goal

abbrev pub invariant-loop-a : goal.invariant-loop-a
invariant-loop-a l = (k : ℕ) → k < l.a-index → (arc l.graph (get_or l.arcs k 0)).from ≢ l.station

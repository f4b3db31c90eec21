use Rattle.std.proofs.Common.{◌≢◌, take}
use Rattle.std.specs.List.{AllPairs}
use Rattle.event_graph.specs.Circuit.{starting_stations}
use Rattle.cycle_time.proofs.circuit.leave_distinct.Given as goal

abbrev pub invariant-loop-index : goal.invariant-loop-index
invariant-loop-index l = AllPairs (λ t u. t ≢ u) (starting_stations l.graph (take l.index l.arcs))

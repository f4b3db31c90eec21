use Rattle.event_graph.specs.Faults.{HasNone}
use Rattle.event_graph.specs.Varying.{Varies}
use Rattle.cycle_time.proofs.varying.first_varying.Given as goal

abbrev pub invariant-loop-t : goal.invariant-loop-t
invariant-loop-t l = HasNone (Varies l.graph) l.t

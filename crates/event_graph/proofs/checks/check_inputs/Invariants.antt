use Rattle.event_graph.specs.Faults.{HasNone, LacksInput}
use Rattle.event_graph.proofs.checks.check_inputs.Given as goal

abbrev pub invariant-loop-station : goal.invariant-loop-station
invariant-loop-station l = HasNone (LacksInput l.parts) l.station

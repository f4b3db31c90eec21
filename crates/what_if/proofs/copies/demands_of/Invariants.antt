use Rattle.event_graph.specs.Network.{demand}
use Rattle.what_if.proofs.Made.{AreMade, values}
use Rattle.what_if.proofs.copies.demands_of.Given as goal

abbrev pub invariant-loop-n : goal.invariant-loop-n
invariant-loop-n l = AreMade (values (demand l.graph) 1) l.jobs l.n l.dates

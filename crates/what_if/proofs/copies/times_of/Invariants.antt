use Rattle.event_graph.specs.Network.{time}
use Rattle.what_if.proofs.Made.{AreMade, values}
use Rattle.what_if.proofs.copies.times_of.Given as goal

abbrev pub invariant-loop-n : goal.invariant-loop-n
invariant-loop-n l = AreMade (values (time l.graph l.t) 1) l.jobs l.n l.times

use Rattle.std.proofs.Common.{◌≡◌, take, map}
use Rattle.event_graph.specs.Network.{label}
use Rattle.line_graph.proofs.dead.labels_of.Given as goal

abbrev pub invariant-loop-t : goal.invariant-loop-t
invariant-loop-t l = l.labels.items ≡ map (label l.graph) (take l.t-index l.list)

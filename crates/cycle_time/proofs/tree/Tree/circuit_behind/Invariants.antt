use Rattle.std.proofs.Common.{◌-◌, length, vec_capacity}
use Rattle.event_graph.specs.Network.{stations}
use Rattle.cycle_time.proofs.Trails.{IsRoomyTrail}
use Rattle.cycle_time.proofs.tree.Tree.circuit_behind.Given as goal

abbrev pub invariant-loop-arcs : goal.invariant-loop-arcs
invariant-loop-arcs l = IsRoomyTrail l.graph l.self l.path.items l.left.items l.t l.at (vec_capacity l.path)

abbrev pub decreases-loop-arcs : goal.decreases-loop-arcs
decreases-loop-arcs l = stations l.graph - length l.path.items

use Rattle.std.proofs.Common.{◌≤◌, ◌-◌, length, vec_capacity}
use Rattle.event_graph.specs.Network.{stations}
use Rattle.live_check.proofs.StuckWalks.{IsStuckWalk}
use Rattle.live_check.proofs.circuit.dead_circuit.Given as goal

abbrev pub invariant-loop-path : goal.invariant-loop-path
invariant-loop-path l = record {
  walk : IsStuckWalk l.graph l.ranks l.path.items l.left.items l.start l.at;
  room : stations l.graph ≤ vec_capacity l.path;
}

abbrev pub decreases-loop-path : goal.decreases-loop-path
decreases-loop-path l = stations l.graph - length l.path.items

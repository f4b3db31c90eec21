use Rattle.line_graph.proofs.DeadCircuits.{arcs_exist}
use Rattle.line_graph.proofs.dead.dead_labels.Goals as goal

pub circuit_stations-requires : goal.circuit_stations-requires
circuit_stations-requires c = arcs_exist c.args.graph.now c.args.arcs.now c.requires

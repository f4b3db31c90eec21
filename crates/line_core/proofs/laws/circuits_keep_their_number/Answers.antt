use Rattle.event_graph.proofs.Places.{circuit_keeps_number}
use Rattle.line_core.proofs.laws.circuits_keep_their_number.Goals as goal

pub returns : goal.returns
returns c = circuit_keeps_number

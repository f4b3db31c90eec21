use Rattle.event_graph.proofs.Places.{circuit-after, walk-start}
use Rattle.event_graph.proofs.laws.circuits_keep_their_tokens.Goals as goal

pub returns-clause-start : goal.returns-clause-start
returns-clause-start c = λ g arcs circuit. walk-start g arcs circuit.base circuit.base circuit.closed

pub returns-clause-firing : goal.returns-clause-firing
returns-clause-firing c = circuit-after

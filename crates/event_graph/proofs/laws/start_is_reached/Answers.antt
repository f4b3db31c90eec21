use Rattle.event_graph.specs.Reached.{begins}
use Rattle.event_graph.proofs.laws.start_is_reached.Goals as goal

pub returns : goal.returns
returns c = λ g. begins

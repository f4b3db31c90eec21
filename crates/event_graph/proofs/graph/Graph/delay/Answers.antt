use Rattle.std.proofs.Common.{ap, ◌∙◌, get_or}
use Rattle.event_graph.specs.Network.{delay}
use Rattle.event_graph.proofs.graph.Graph.delay.Goals as goal

pub returns-clause-delay : goal.returns-clause-delay
unfolding delay
returns-clause-delay c = ap (λ xs. get_or xs c.args.a 0) c.as_slice.ensures ∙ ap (λ g. delay g c.args.a) c.self.view_is

use Rattle.std.proofs.Common.{◌-◌, ap, ◌∙◌, get_or}
use Rattle.event_graph.specs.Network.{demand}
use Rattle.event_graph.proofs.graph.Graph.demand.Goals as goal

pub returns-clause-date : goal.returns-clause-date
unfolding demand
returns-clause-date c = ap (λ xs. get_or xs (c.args.n - 1) 0) c.as_slice.ensures ∙ ap (λ g. demand g c.args.n) c.self.view_is

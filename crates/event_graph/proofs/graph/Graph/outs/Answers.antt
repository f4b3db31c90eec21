use Rattle.std.proofs.Common.{[], ap, ◌∙◌, get_or, length, subst, arith}
use Rattle.event_graph.specs.declared.lists.End.TheVariants.{Start}
use Rattle.event_graph.specs.Limits.{IsWithinLimits}
use Rattle.event_graph.specs.Network.{IsGraph, outs, stations}
use Rattle.event_graph.proofs.ArcNumbers.{All-listed_outs, get_or-lists_at, length-lists_at}
use Rattle.event_graph.proofs.graph.Graph.outs.Goals as goal

pub of-requires : goal.of-requires
of-requires c =
    omega (arith, c.requires, ap stations c.self.view_is, ap (λ lists. length lists) c.self.invariant.out_of_are, length-lists_at Start c.self.inside.parts)

pub returns-clause-arcs : goal.returns-clause-arcs
returns-clause-arcs c =
    c.of.ensures
    ∙ (ap (λ lists. get_or lists c.args.t []) c.self.invariant.out_of_are
    ∙ (get_or-lists_at Start c.self.inside.parts c.args.t (omega (arith, c.requires, ap stations c.self.view_is))
    ∙ ap (λ g. outs g c.args.t) c.self.view_is))

pub returns-clause-each : goal.returns-clause-each
returns-clause-each c = All-listed_outs c.args.self.now c.args.t c.of.result.now (returns-clause-arcs c)

pub returns-clause-graph : goal.returns-clause-graph
returns-clause-graph c = subst IsGraph c.self.view_is c.self.invariant.graph

pub returns-clause-limits : goal.returns-clause-limits
returns-clause-limits c = subst IsWithinLimits c.self.view_is c.self.invariant.limits

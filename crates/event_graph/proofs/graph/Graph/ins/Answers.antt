use Rattle.std.proofs.Common.{[], ap, ◌∙◌, get_or, length, subst, arith}
use Rattle.event_graph.specs.declared.lists.End.TheVariants.{Finish}
use Rattle.event_graph.specs.Limits.{IsWithinLimits}
use Rattle.event_graph.specs.Network.{IsGraph, ins, stations}
use Rattle.event_graph.proofs.ArcNumbers.{All-listed_ins, get_or-lists_at, length-lists_at}
use Rattle.event_graph.proofs.graph.Graph.ins.Goals as goal

pub of-requires : goal.of-requires
of-requires c =
    omega (arith, c.requires, ap stations c.self.view_is, ap (λ lists. length lists) c.self.invariant.into_are, length-lists_at Finish c.self.inside.parts)

pub returns-clause-arcs : goal.returns-clause-arcs
returns-clause-arcs c =
    c.of.ensures
    ∙ (ap (λ lists. get_or lists c.args.t []) c.self.invariant.into_are
    ∙ (get_or-lists_at Finish c.self.inside.parts c.args.t (omega (arith, c.requires, ap stations c.self.view_is))
    ∙ ap (λ g. ins g c.args.t) c.self.view_is))

pub returns-clause-each : goal.returns-clause-each
returns-clause-each c = All-listed_ins c.args.self.now c.args.t c.of.result.now (returns-clause-arcs c)

pub returns-clause-graph : goal.returns-clause-graph
returns-clause-graph c = subst IsGraph c.self.view_is c.self.invariant.graph

pub returns-clause-limits : goal.returns-clause-limits
returns-clause-limits c = subst IsWithinLimits c.self.view_is c.self.invariant.limits

use Rattle.std.proofs.Common.{◌≡◌, ◌+◌, ◌-◌, Some, sym, ap, ◌∙◌, arith}
use Rattle.event_graph.specs.Network.{stations}
use Rattle.event_graph.proofs.Sizes.{demand-small}
use Rattle.latest_dates.proofs.EarliestBounds.{promised-last, promised-other}
use Rattle.latest_dates.proofs.bounds.promised_date.Goals as goal

pub overflow_add-demand : goal.overflow_add-demand
overflow_add-demand c =
    omega (arith, c.demand.ensures.date, demand-small c.args.graph.now c.args.n c.demand.ensures.limits, c.requires.small)

pub at-requires : goal.at-requires
at-requires c =
    omega (arith, c.demand.ensures.date, demand-small c.args.graph.now c.args.n c.demand.ensures.limits, c.requires.small)

pub returns-then-t-stations : goal.returns-then-t-stations
returns-then-t-stations c =
    let last : c.args.t ≡ stations c.args.graph.now - 1 = omega (arith, c.if-t-stations.true, c.stations.ensures.count) in
    c.at.ensures ∙ ap (λ d. Some (d + c.args.wait)) c.demand.ensures.date ∙ sym (promised-last c.args.graph.now c.args.wait c.args.t c.args.n last)

pub returns-else-t-stations : goal.returns-else-t-stations
returns-else-t-stations c =
    c.none.ensures ∙ sym (promised-other c.args.graph.now c.args.wait c.args.t c.args.n (λ last. c.if-t-stations.false (last ∙ ap (λ k. k - 1) (sym c.stations.ensures.count))))

use Rattle.std.proofs.Common.{◌+◌, List, ℕ, drop, sym, ap, ◌∙◌, arith}
use Rattle.line_base.specs.declared.event.Parts.{Parts}
use Rattle.event_graph.specs.Network.{outs}
use Rattle.latest_dates.specs.Found.{latest_in}
use Rattle.latest_dates.specs.Latest.{earlier, earliest, promised_date, bound, earliest_bound}
use Rattle.latest_dates.proofs.Earliest.{earliest-next, earliest-past}
use Rattle.latest_dates.proofs.bounds.earliest_bound.Goals as goal

pub loop-a-preserved : goal.loop-a-preserved
loop-a-preserved c =
    let bounds = bound c.args.live.now.graph (latest_in c.args.live.now c.args.dates.now) c.args.n in
    let items = c.outs-outs.result.now in
    let i = c.loop-a.a-index in
    ap (λ o. earlier o (earliest bounds (drop (i + 1) items))) (c.earlier-earliest.ensures ∙ ap (earlier c.loop-a.earliest) c.bound-bound.ensures)
    ∙ earliest-next bounds items i 0 c.loop-a.earliest c.loop-a-test.true
    ∙ c.loop-a.invariant

pub returns : goal.returns
unfolding earliest_bound
returns c =
    let graph = c.args.live.now.graph in
    let bounds = bound graph (latest_in c.args.live.now c.args.dates.now) c.args.n in
    let items = c.outs-outs.result.now in
    let is = c.graph-graph.ensures.graph in
    sym (earliest-past bounds items c.loop-a.a-index c.loop-a.earliest (omega arith))
    ∙ c.loop-a.invariant
    ∙ ap (λ o. earlier o (earliest bounds items)) (c.promised_date-earliest.ensures ∙ ap (λ (h : Parts). promised_date h c.args.wait c.args.t c.args.n) is)
    ∙ ap (λ (l : List ℕ). earlier (promised_date graph c.args.wait c.args.t c.args.n) (earliest bounds l)) (c.outs-outs.ensures.arcs ∙ ap (λ (h : Parts). outs h c.args.t) is)

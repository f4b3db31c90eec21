use Rattle.std.proofs.Common.{◌+◌, ◌≢◌, sym, ap, ◌∙◌, get_or, max, drop}
use Rattle.line_base.specs.declared.event.Parts.{Parts}
use Rattle.event_graph.specs.Network.{ins}
use Rattle.event_graph.specs.GreatestValue.{greatest}
use Rattle.live_check.specs.Order.{LiveGraph}
use Rattle.line_core.proofs.Searches.{ord_max-nat, greatest-next, greatest-past}
use Rattle.what_if.specs.Page.{graph_of, greatest_term}
use Rattle.what_if.proofs.Inputs.{demand-edited, ins-edited}
use Rattle.what_if.proofs.Terms.{due-feed, due-other}
use Rattle.what_if.proofs.Walks.{asks, asks-is}
use Rattle.what_if.proofs.sheet.Sheet.greatest_term.Goals as goal

pub returns-then-t-eq0 : goal.returns-then-t-eq0
returns-then-t-eq0 c =
    let p = c.args.self.now in
    let n = c.args.n in
    c.demand.ensures.date
    ∙ sym (demand-edited p.live.graph p.inputs n)
    ∙ sym (due-feed (graph_of p) p.dates n)
    ∙ ap (λ u. greatest_term p u n) (sym c.if-t-eq0.true)

pub loop-a-preserved : goal.loop-a-preserved
loop-a-preserved c =
    let asked = asks c.args.self.now c.args.n in
    let items = c.ins-a-items.result.now in
    let i = c.loop-a.a-index in
    let here = c.term.ensures ∙ sym (asks-is c.args.self.now c.args.n (get_or items i 0)) in
    ap (λ m. max m (greatest asked (drop (i + 1) items))) (c.max-latest.ensures ∙ ord_max-nat c.loop-a.latest c.term.result ∙ ap (max c.loop-a.latest) here)
    ∙ greatest-next asked items i 0 c.loop-a.latest c.loop-a-test.true
    ∙ c.loop-a.invariant

pub returns : goal.returns
unfolding asks
returns c =
    let p = c.args.self.now in
    let t = c.args.t in
    let n = c.args.n in
    let items = c.ins-a-items.result.now in
    let graph = c.graph.ensures.graph ∙ ap (λ (l : LiveGraph). l.graph) c.requires.made_for in
    let other : t ≢ 0 = λ feed. c.if-t-eq0.false feed in
    sym (greatest-past (asks p n) items c.loop-a.a-index c.loop-a.latest c.loop-a-test.false)
    ∙ c.loop-a.invariant
    ∙ ap (greatest (asks p n)) (c.ins-a-items.ensures.arcs ∙ ap (λ (g : Parts). ins g t) graph ∙ sym (ins-edited p.live.graph p.inputs t))
    ∙ sym (due-other (graph_of p) p.dates t n other)

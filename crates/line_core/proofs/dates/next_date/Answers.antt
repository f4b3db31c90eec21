use Rattle.std.proofs.Common.{◌+◌, sym, ap, ◌∙◌, arith, get_or, max, drop}
use Rattle.event_graph.specs.Network.{demand, ins}
use Rattle.event_graph.specs.GreatestValue.{greatest}
use Rattle.line_core.proofs.Runs.{new_date-feed, new_date-other, has_held, asks, asks-is}
use Rattle.line_core.proofs.Searches.{ord_max-nat, greatest-next, greatest-past}
use Rattle.line_core.proofs.dates.next_date.Goals as goal

pub returns-then-t-eq0 : goal.returns-then-t-eq0
returns-then-t-eq0 c =
    c.demand.ensures.date
    ∙ ap (λ n. demand c.args.graph.now (n + 1)) c.count_at-done.ensures.count
    ∙ sym (new_date-feed c.args.graph.now c.args.logs.now c.requires.has_room c.args.t c.requires.can c.if-t-eq0.true)

pub asked_date-date-requires-clause-token : goal.asked_date-date-requires-clause-token
asked_date-date-requires-clause-token c =
    let at = c.ins-ins.ensures.each c.loop-a.a-index 0 c.loop-a-test.true in
    omega (arith, c.count_at-done.ensures.count, has_held c.args.graph.now c.args.logs.now c.requires.has_room c.args.t c.requires.can _ at.0 at.1)

pub loop-a-preserved : goal.loop-a-preserved
loop-a-preserved c =
    let asked = asks c.args.graph.now c.args.logs.now c.count_at-done.result in
    let here = c.asked_date-date.ensures ∙ asks-is c.args.graph.now c.args.logs.now c.count_at-done.result (get_or c.ins-ins.result.now c.loop-a.a-index 0) in
    ap (λ m. max m (greatest asked (drop (c.loop-a.a-index + 1) c.ins-ins.result.now))) (c.max-latest.ensures ∙ ord_max-nat c.loop-a.latest c.asked_date-date.result ∙ ap (max c.loop-a.latest) here)
    ∙ greatest-next asked c.ins-ins.result.now c.loop-a.a-index 0 c.loop-a.latest c.loop-a-test.true
    ∙ c.loop-a.invariant

pub returns : goal.returns
returns c =
    let g = c.args.graph.now in
    let logs = c.args.logs.now in
    let asked = asks g logs c.count_at-done.result in
    sym (greatest-past asked c.ins-ins.result.now c.loop-a.a-index c.loop-a.latest (omega arith))
    ∙ c.loop-a.invariant
    ∙ ap (greatest asked) c.ins-ins.ensures.arcs
    ∙ ap (λ k. greatest (asks g logs k) (ins g c.args.t)) c.count_at-done.ensures.count
    ∙ sym (new_date-other g logs c.requires.has_room c.args.t c.requires.can c.if-t-eq0.false)

use Rattle.std.proofs.Common.{◌≡◌, ℕ, List, ◌+◌, ap, ◌∙◌, sym, subst, arith, Vec, Global}
use Rattle.event_graph.specs.Network.{stations}
use Rattle.line_worker.specs.Order.{IsOrderUpto}
use Rattle.line_worker.proofs.StepOrder.{order_begins, order_ends, order_skips, order_takes}
use Rattle.line_worker.proofs.order.order_of.Goals as goal
use Rattle.line_worker.proofs.order.order_of.Goals.{in-Some+in_ok-push, in_default}

pub loop-rank-init : goal.loop-rank-init
loop-rank-init c =
    subst (λ (l : List ℕ). IsOrderUpto c.args.live.now.ranks c.args.first c.args.count l 0) (sym c.in_ok-order.ensures.items) (
    order_begins c.args.live.now.ranks c.args.first c.args.count)

pub loop-rank-preserved : goal.loop-rank-preserved
loop-rank-preserved c =
    let live = c.args.live.now in
    let old = c.loop-rank.order.items in
    let at = c.station_at.ensures in
    let ranked = c.graph.ensures.ranked in
    let Upto : List ℕ → Type 0 = λ l. IsOrderUpto live.ranks c.args.first c.args.count l (c.loop-rank.rank + 1) in
    elim c.match-number_in.branch [
      | in-Some+in_ok-push w ↦
          let is = w.in-Some.ensures in
          subst Upto (sym (ap (λ (v : Vec ℕ Global). v.items) w.order-is ∙ w.in_ok-push.ensures.items)) (
          order_takes live ranked c.args.first c.args.count c.requires old c.loop-rank.rank c.station_at.result c.loop-rank.invariant at.exists at.rank is.0.0 is.0.1 w.in-Some.number (sym is.1))
      | in_default w ↦
          subst Upto (sym (ap (λ (v : Vec ℕ Global). v.items) w.order-is)) (
          order_skips live ranked c.args.first c.args.count c.requires old c.loop-rank.rank c.station_at.result c.loop-rank.invariant at.exists at.rank (λ from under. w.in_default.ensures (from, under)))
    ]

pub returns : goal.returns
returns c =
    let counted : c.stations-rank-end.result ≡ stations c.args.live.now.graph = c.stations-rank-end.ensures.count ∙ ap stations c.graph.ensures.graph in
    let all : c.loop-rank.rank ≡ stations c.args.live.now.graph = omega (arith, c.loop-rank-test.false, c.loop-rank.auto.rank-end, counted) in
    order_ends c.args.live.now c.args.first c.args.count c.loop-rank.order.items c.graph.ensures.ranked c.requires (
    subst (IsOrderUpto c.args.live.now.ranks c.args.first c.args.count c.loop-rank.order.items) all c.loop-rank.invariant)

use Rattle.std.proofs.Common.{◌<◌, ap, arith}
use Rattle.event_graph.specs.Network.{stations}
use Rattle.live_check.specs.Ranking.{Ranks}
use Rattle.live_check.proofs.RankSteps.{has_room, idle_none, idle_more_yes, idle_more_no}
use Rattle.live_check.proofs.ranking.Ranking.rank_idle.Goals as goal
use Rattle.live_check.proofs.ranking.Ranking.rank_idle.Goals.{then-index-eq0, else-index-eq0}

pub loop-t-init : goal.loop-t-init
loop-t-init c = idle_none c.args.graph.now c.args.self.now c.requires.passed c.requires.none

pub rank_next-requires-clause-station : goal.rank_next-requires-clause-station
rank_next-requires-clause-station c =
    omega (arith, c.loop-t-test.true, c.stations-t-end.ensures.count, c.loop-t.invariant.passed.falling.rank_for_each)

pub rank_next-requires-clause-room : goal.rank_next-requires-clause-room
rank_next-requires-clause-room c =
    let h = c.loop-t.invariant in
    let exists : c.loop-t.t < stations c.args.graph.now = omega (arith, c.loop-t-test.true, c.stations-t-end.ensures.count) in
    let room = has_room c.args.graph.now c.loop-t.self c.loop-t.t h.passed.falling exists (h.unranked c.loop-t.t (omega arith) exists) in
    omega (arith, room, h.passed.falling.rank_for_each)

pub loop-t-preserved : goal.loop-t-preserved
loop-t-preserved c =
    let g = c.args.graph.now in
    let n = c.stations-t-end.ensures in
    let waiting = ap (λ (r : Ranks). r.waiting) c.self.view_is in
    elim c.if-index-eq0.branch [
      | then-index-eq0 w ↦
          (rw (w.self-is, w.rank_next.ensures)
          (idle_more_yes g c.loop-t.self c.loop-t.t c.index.result.now _ n.graph c.loop-t.invariant (omega (arith, n.count)) waiting c.index.ensures w.if-index-eq0.true))
      | else-index-eq0 w ↦
          (rw w.self-is (idle_more_no g c.loop-t.self c.loop-t.t c.index.result.now _ c.loop-t.invariant (omega (arith, n.count)) waiting c.index.ensures w.if-index-eq0.false))
    ]

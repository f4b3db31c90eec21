use Rattle.std.proofs.Common.{◌+◌, ap, length, arith}
use Rattle.live_check.specs.Ranking.{Ranks}
use Rattle.live_check.proofs.RankSteps.{turn_read, may_release, passes_yes, passes_no}
use Rattle.live_check.proofs.ranking.Ranking.pass.Goals as goal
use Rattle.live_check.proofs.ranking.Ranking.pass.Goals.{then-arc-eq0, else-arc-eq0}

pub loop-a-init : goal.loop-a-init
loop-a-init c =
    turn_read c.args.graph.now c.args.self.now _ c.ins-ins.result.now c.args.rank c.index.result.now c.ins-ins.ensures.graph c.requires.passed c.requires.ready c.requires.exists (ap (λ (r : Ranks). r.order) c.self.view_is) c.index.ensures c.ins-ins.ensures.arcs

pub bounds-arcs-a : goal.bounds-arcs-a
bounds-arcs-a c =
    let there = (c.ins-ins.ensures.each c.loop-a.a-index 0 c.loop-a-test.true).0 in
    omega (arith, there, ap length c.arcs-arcs.ensures.arcs)

pub release-requires-clause-waits : goal.release-requires-clause-waits
release-requires-clause-waits c =
    let there = (c.ins-ins.ensures.each c.loop-a.a-index 0 c.loop-a-test.true).0 in
    let starts = c.ins-ins.ensures.graph.starts_exist _ there in
    rw c.arcs-arcs.ensures.arcs (omega (arith, starts, c.loop-a.invariant.passing.waiting_for_each))

pub release-requires-clause-station : goal.release-requires-clause-station
release-requires-clause-station c =
    let there = (c.ins-ins.ensures.each c.loop-a.a-index 0 c.loop-a-test.true).0 in
    let starts = c.ins-ins.ensures.graph.starts_exist _ there in
    rw c.arcs-arcs.ensures.arcs (omega (arith, starts, c.loop-a.invariant.passing.falling.rank_for_each))

pub release-requires-clause-some : goal.release-requires-clause-some
release-requires-clause-some c =
    let arcs = c.arcs-arcs.ensures.arcs in
    let there = (c.ins-ins.ensures.each c.loop-a.a-index 0 c.loop-a-test.true).0 in
    rw arcs (may_release c.args.graph.now c.loop-a.self (c.args.rank + 1) c.loop-a.a-index c.ins-ins.result.now c.ins-ins.ensures.graph c.loop-a.invariant.passing c.loop-a-test.true there (rw arcs at c.if-arc-eq0.true)).0

pub release-requires-clause-room : goal.release-requires-clause-room
release-requires-clause-room c =
    let there = (c.ins-ins.ensures.each c.loop-a.a-index 0 c.loop-a-test.true).0 in
    (may_release c.args.graph.now c.loop-a.self (c.args.rank + 1) c.loop-a.a-index c.ins-ins.result.now c.ins-ins.ensures.graph c.loop-a.invariant.passing c.loop-a-test.true there (rw c.arcs-arcs.ensures.arcs at c.if-arc-eq0.true)).1

pub loop-a-preserved : goal.loop-a-preserved
loop-a-preserved c =
    let g = c.args.graph.now in
    let arcs = c.arcs-arcs.ensures.arcs in
    let there = (c.ins-ins.ensures.each c.loop-a.a-index 0 c.loop-a-test.true).0 in
    elim c.if-arc-eq0.branch [
      | then-arc-eq0 w ↦
          (rw (w.self-is, w.release.ensures, arcs)
          (passes_yes g c.loop-a.self (c.args.rank + 1) c.loop-a.a-index c.ins-ins.result.now c.ins-ins.ensures.graph c.loop-a.invariant c.loop-a-test.true there (rw arcs at w.if-arc-eq0.true)))
      | else-arc-eq0 w ↦
          (rw w.self-is
          (passes_no g c.loop-a.self (c.args.rank + 1) c.loop-a.a-index c.ins-ins.result.now c.loop-a.invariant c.loop-a-test.true (rw arcs at w.if-arc-eq0.false)))
    ]

use Rattle.std.proofs.Common.{ap, length, ◌<◌, arith, rules}
use Rattle.live_check.proofs.RankSteps.{count_fits, counts_read_yes, counts_read_no}
use Rattle.live_check.proofs.ranking.count_free.Goals as goal
use Rattle.live_check.proofs.ranking.count_free.Goals.{then-arc-eq0, else-arc-eq0}

pub overflow_add-index_mut : goal.overflow_add-index_mut
overflow_add-index_mut c =
    let arcs = c.arcs-arcs.ensures in
    let small = count_fits c.args.graph.now c.arcs-arcs.result.now c.loop-arc.counts.items c.loop-arc.arc-index c.index_mut.result.now arcs.arcs arcs.graph c.loop-arc.invariant c.loop-arc-test.true c.index_mut.ensures.value in
    let few : c.loop-arc.arc-index < 4096 = omega (arith, ap length arcs.arcs, arcs.limits.few_arcs) in
    search rules

pub loop-arc-preserved : goal.loop-arc-preserved
loop-arc-preserved c =
    let g = c.args.graph.now in
    let arcs = c.arcs-arcs in
    elim c.if-arc-eq0.branch [
      | then-arc-eq0 w ↦ (rw w.counts-is (counts_read_yes g arcs.result.now c.loop-arc.counts.items c.loop-arc.arc-index w.index_mut.result.now arcs.ensures.arcs arcs.ensures.graph c.loop-arc.invariant c.loop-arc-test.true w.if-arc-eq0.true w.index_mut.ensures.value))
      | else-arc-eq0 w ↦ (rw w.counts-is (counts_read_no g arcs.result.now c.loop-arc.counts.items c.loop-arc.arc-index arcs.ensures.arcs c.loop-arc.invariant w.if-arc-eq0.false))
    ]

use Rattle.std.proofs.Common.{◌≡◌, false, get_or, ap, length, below_more, arith}
use Rattle.live_check.proofs.StuckWalks.{some_leads_on}
use Rattle.live_check.proofs.circuit.arc_on.Goals as goal
use Rattle.live_check.proofs.circuit.arc_on.Goals.{else-arc-eq0-via-then-arc-eq0+else-ranks-arc, else-arc-eq0-via-else-arc-eq0}

pub loop-a-init : goal.loop-a-init
loop-a-init c = λ k before. absurd (omega (arith, before))

pub bounds-arcs-a : goal.bounds-arcs-a
bounds-arcs-a c =
    let there = (c.outs-outs.ensures.each c.loop-a.a-index 0 c.loop-a-test.true).0 in
    omega (arith, there, ap length c.arcs-arcs.ensures.arcs)

pub bounds-ranks-arc : goal.bounds-ranks-arc
bounds-ranks-arc c =
    let there = (c.outs-outs.ensures.each c.loop-a.a-index 0 c.loop-a-test.true).0 in
    let ends = c.outs-outs.ensures.graph.ends_exist _ there in
    rw c.arcs-arcs.ensures.arcs (omega (arith, ends, c.requires.one_for_each))

pub returns-then-ranks-arc : goal.returns-then-ranks-arc
returns-then-ranks-arc c =
    let arcs = c.arcs-arcs.ensures.arcs in
    let there = c.outs-outs.ensures.each c.loop-a.a-index 0 c.loop-a-test.true in
    let free : (get_or c.arcs-arcs.result.now (get_or c.outs-outs.result.now c.loop-a.a-index 0) (record { from = 0; to = 0; tokens = 0; worked = false })).tokens ≡ 0 = omega arith in
    let unranked = rw arcs at c.if-ranks-arc.true in
    record {
      exists = there.0;
      from = there.1;
      free = rw arcs at free;
      unranked = omega (arith, unranked, c.stations-stations.ensures.count);
    }

pub loop-a-preserved : goal.loop-a-preserved
loop-a-preserved c =
    below_more _ _ c.loop-a.invariant
    (λ none no_rank.
    elim c.else-arc-eq0.branch [
      | else-arc-eq0-via-then-arc-eq0+else-ranks-arc w ↦ (let ranked = rw c.arcs-arcs.ensures.arcs at w.if-ranks-arc.false in omega (arith, ranked, no_rank, c.stations-stations.ensures.count))
      | else-arc-eq0-via-else-arc-eq0 w ↦ (let taken = rw c.arcs-arcs.ensures.arcs at w.if-arc-eq0.false in taken none)
    ])

pub unreachable-requires : goal.unreachable-requires
unreachable-requires c =
    some_leads_on c.args.graph.now c.args.ranks.now c.outs-outs.result.now c.args.t c.loop-a.a-index c.outs-outs.ensures.arcs (c.requires.stuck.way c.args.t c.requires.station c.requires.unranked) c.loop-a-test.false c.loop-a.invariant

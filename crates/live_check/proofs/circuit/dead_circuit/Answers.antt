use Rattle.std.proofs.Common.{◌≡◌, ap, sym, ◌∙◌, length, drop, vec_len, Vec, Global, ℕ, arith}
use Rattle.std.proofs.lemmas.List.{length_push}
use Rattle.std.proofs.lemmas.Result.{IfOk-weaker}
use Rattle.live_check.specs.DeadCircuit.{IsDeadCircuit}
use Rattle.live_check.proofs.StuckWalks.{walk_none, walk_room_read, walk_more_read, walk_closed_read}
use Rattle.live_check.proofs.circuit.dead_circuit.Goals as goal

pub loop-path-init : goal.loop-path-init
loop-path-init c =
    let all = c.stations-stations.ensures in
    let left = rw all.count at (c.in_ok-left.ensures.items_if_clones_equal (λ y same. same)) in
    record {
      walk = rw (c.in_ok-path.ensures.items, left) (walk_none c.args.graph.now c.args.ranks.now c.args.start c.requires.station c.requires.unranked);
      room = omega (arith, c.in_ok-path.ensures.capacity, all.count);
    }

pub index-requires : goal.index-requires
index-requires c =
    let walk = c.loop-path.invariant.walk in
    let all : vec_len c.loop-path.left ≡ length c.loop-path.left.items = omega arith in
    omega (arith, all, walk.here, walk.steps.left_for_each)

pub index_mut-requires : goal.index_mut-requires
index_mut-requires c =
    let walk = c.loop-path.invariant.walk in
    let all : vec_len c.loop-path.left ≡ length c.loop-path.left.items = omega arith in
    omega (arith, all, walk.here, walk.steps.left_for_each)

pub index-requires-2 : goal.index-requires-2
index-requires-2 c =
    let walk = c.loop-path.invariant.walk in
    let all : vec_len c.loop-path.left ≡ length c.loop-path.left.items = omega arith in
    omega (arith, all, walk.here, walk.steps.left_for_each)

pub overflow_cast-len : goal.overflow_cast-len
overflow_cast-len c =
    let all = c.stations-stations.ensures in
    let steps : vec_len c.loop-path.path ≡ length c.loop-path.path.items = omega arith in
    let room = walk_room_read c.args.graph.now c.args.ranks.now c.loop-path.path.items c.loop-path.left.items c.args.start c.loop-path.at c.index.result.now c.loop-path.invariant.walk c.index.ensures (c.loop-path-test.true ∙ all.count) in
    omega (arith, c.len.ensures, steps, room, all.count, c.stations-stations.type_inv)

pub arc_on-a-requires-clause-station : goal.arc_on-a-requires-clause-station
arc_on-a-requires-clause-station c = c.loop-path.invariant.walk.here

pub arc_on-a-requires-clause-unranked : goal.arc_on-a-requires-clause-unranked
arc_on-a-requires-clause-unranked c = c.loop-path.invariant.walk.unranked

pub push_reserved-requires : goal.push_reserved-requires
push_reserved-requires c =
    let steps : vec_len c.loop-path.path ≡ length c.loop-path.path.items = omega arith in
    let room = walk_room_read c.args.graph.now c.args.ranks.now c.loop-path.path.items c.loop-path.left.items c.args.start c.loop-path.at c.index.result.now c.loop-path.invariant.walk c.index.ensures (c.loop-path-test.true ∙ c.stations-stations.ensures.count) in
    omega (arith, steps, room, c.loop-path.invariant.room)

pub arc-at-requires : goal.arc-at-requires
arc-at-requires c = c.arc_on-a.ensures.exists

pub loop-path-smaller : goal.loop-path-smaller
loop-path-smaller c =
    let room = walk_room_read c.args.graph.now c.args.ranks.now c.loop-path.path.items c.loop-path.left.items c.args.start c.loop-path.at c.index.result.now c.loop-path.invariant.walk c.index.ensures (c.loop-path-test.true ∙ c.stations-stations.ensures.count) in
    omega (arith, room, ap length c.push_reserved.ensures.items, length_push c.loop-path.path.items c.arc_on-a.result)

pub loop-path-preserved : goal.loop-path-preserved
loop-path-preserved c =
    let g = c.args.graph.now in
    let all = c.stations-stations.ensures in
    let steps : vec_len c.loop-path.path ≡ length c.loop-path.path.items = omega arith in
    record {
      walk =
          rw (c.push_reserved.ensures.items, c.arc-at.ensures.arc)
          (walk_more_read g c.args.ranks.now c.loop-path.path.items c.loop-path.left.items c.args.start c.loop-path.at c.arc_on-a.result c.len.result c.index.result.now all.graph c.loop-path.invariant.walk c.index.ensures (c.loop-path-test.true ∙ all.count) c.arc_on-a.ensures (c.len.ensures ∙ steps));
      room = omega (arith, c.loop-path.invariant.room, c.push_reserved.ensures.capacity);
    }

pub rest_of-requires : goal.rest_of-requires
rest_of-requires c =
    let closed = walk_closed_read c.args.graph.now c.args.ranks.now c.loop-path.path.items c.loop-path.left.items c.args.start c.loop-path.at c.index.result.now c.index-2.result.now c.loop-path.invariant.walk c.index.ensures (λ fresh. c.loop-path-test.false (fresh ∙ sym c.stations-stations.ensures.count)) c.index-2.ensures in
    omega (arith, closed.0, ap length c.deref.ensures.value)

pub returns : goal.returns
returns c =
    let step = c.index-2.result.now in
    let path = c.deref.result.now in
    let closed = walk_closed_read c.args.graph.now c.args.ranks.now c.loop-path.path.items c.loop-path.left.items c.args.start c.loop-path.at c.index.result.now step c.loop-path.invariant.walk c.index.ensures (λ fresh. c.loop-path-test.false (fresh ∙ sym c.stations-stations.ensures.count)) c.index-2.ensures in
    IfOk-weaker c.rest_of.result (λ (rest : Vec ℕ Global). rest.items ≡ drop step path) (λ (arcs : Vec ℕ Global). IsDeadCircuit c.args.graph.now arcs.items)
    (λ arcs is. rw (is, c.deref.ensures.value) closed.1) c.rest_of.ensures

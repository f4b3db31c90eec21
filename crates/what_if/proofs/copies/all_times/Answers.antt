use Rattle.std.proofs.Common.{◌≡◌, map, refl, ap, ◌∙◌, arith}
use Rattle.std.specs.List.{range_with_len}
use Rattle.event_graph.specs.Network.{stations}
use Rattle.what_if.proofs.Made.{values, made_none, made_room, made_more}
use Rattle.what_if.specs.Edited.{times_of, inputs_of}
use Rattle.what_if.proofs.copies.all_times.Goals as goal

pub loop-t-init : goal.loop-t-init
loop-t-init c =
    let made = c.in_ok-rows.ensures in
    made_none (values (times_of c.args.graph.now) 0) c.stations-stations.result _ refl made.items made.len made.capacity

pub push_reserved-requires : goal.push_reserved-requires
push_reserved-requires c =
    made_room (values (times_of c.args.graph.now) 0) c.stations-stations.result _ _ c.loop-t.invariant c.loop-t-test.true

pub loop-t-preserved : goal.loop-t-preserved
loop-t-preserved c =
    made_more (times_of c.args.graph.now) 0 c.stations-stations.result c.loop-t.t c.loop-t.t _ _ _ (omega arith) c.in_ok-times_of.ensures
    c.loop-t.invariant c.push_reserved.ensures.items c.push_reserved.ensures.len c.push_reserved.ensures.capacity

pub returns : goal.returns
unfolding inputs_of
returns c =
    let g = c.args.graph.now in
    let all : c.loop-t.t ≡ stations g = omega (arith, c.loop-t-test.false, c.loop-t.auto.t-end, c.stations-stations.ensures.count) in
    c.loop-t.invariant.items ∙ ap (λ k. map (times_of g) (range_with_len 0 k)) all

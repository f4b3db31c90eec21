use Rattle.std.proofs.Common.{◌≤◌, ◌<◌, length, refl, ap, arith}
use Rattle.event_graph.specs.Network.{stations}
use Rattle.what_if.proofs.Made.{copied, made_none, made_room, copied_more, copied_all}
use Rattle.what_if.proofs.copies.ranks_of.Goals as goal

pub loop-t-init : goal.loop-t-init
loop-t-init c =
    let made = c.in_ok-ranks.ensures in
    made_none (copied c.args.live.now.ranks) c.stations-stations.result _ refl made.items made.len made.capacity

pub push_reserved-requires : goal.push_reserved-requires
push_reserved-requires c =
    made_room (copied c.args.live.now.ranks) c.stations-stations.result _ _ c.loop-t.invariant c.loop-t-test.true

pub loop-t-preserved : goal.loop-t-preserved
loop-t-preserved c =
    let ranks = c.args.live.now.ranks in
    let there : c.loop-t.t < length ranks = omega (arith, c.loop-t-test.true, c.stations-stations.ensures.count, ap stations c.graph.ensures.graph, c.graph.ensures.ranked.upward.rank_for_each) in
    let pushed = c.push_reserved.ensures in
    copied_more ranks c.stations-stations.result c.loop-t.t 0 _ _ _ there c.place_of.ensures.rank c.loop-t.invariant pushed.items pushed.len pushed.capacity

pub returns : goal.returns
returns c =
    let ranks = c.args.live.now.ranks in
    let over : length ranks ≤ c.loop-t.t = omega (arith, c.loop-t-test.false, c.stations-stations.ensures.count, ap stations c.graph.ensures.graph, c.graph.ensures.ranked.upward.rank_for_each) in
    copied_all ranks c.stations-stations.result c.loop-t.t _ over c.loop-t.invariant

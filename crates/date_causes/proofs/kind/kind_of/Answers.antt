use Rattle.std.proofs.Common.{◌≡◌, ◌+◌, length, ap, ◌∙◌, arith}
use Rattle.event_graph.specs.Network.{arc_count}
use Rattle.plant_model.specs.ArcNumbers.{policy_arc, first_loop_arc}
use Rattle.date_causes.specs.Kinds.{kind_at, IsLike}
use Rattle.date_causes.proofs.KindedRows.{like_read, demand_kind, card_kind, loop_kind, part_kind, server_kind, order_kind}
use Rattle.date_causes.proofs.kind.kind_of.Goals as goal
use Rattle.date_causes.proofs.kind.kind_of.Goals.{After-arc-arc, After-policy_arc, After-arcs}
use Rattle.circuit_sums.proofs.Listings.{arc_count-loops}

like : (c : After-arc-arc) → IsLike c.args.plant.now c.args.a c.arc-arc.result (kind_at c.args.plant.now c.args.a)
like c =
    like_read c.args.plant.now c.args.numbers.now c.args.graph.now c.args.a c.arc-arc.result c.requires.of_plant c.requires.arc c.arc-arc.ensures.arc

first : (c : After-policy_arc) → c.policy_arc.result ≡ policy_arc c.args.plant.now
first c = c.policy_arc.ensures ∙ ap policy_arc c.requires.of_plant.numbers_are

count : (c : After-arcs) → length c.arcs.result.now ≡ first_loop_arc c.args.plant.now + c.len-loops.result
count c =
    omega (arith, ap length c.arcs.ensures.arcs, ap arc_count c.requires.of_plant.graph_is, arc_count-loops c.args.plant.now, c.len-loops.ensures)

pub returns-then-arc-eq-FEED : goal.returns-then-arc-eq-FEED
returns-then-arc-eq-FEED c =
    let p = c.args.plant.now in
    demand_kind p c.args.a c.arc-arc.result (kind_at p c.args.a) (like (goal.at.returns-then-arc-eq-FEED c).After-arc-arc) c.if-arc-eq-FEED.true

pub overflow_sub-first_loop : goal.overflow_sub-first_loop
overflow_sub-first_loop c = omega (arith, count c)

pub returns-then-a-first_loop : goal.returns-then-a-first_loop
returns-then-a-first_loop c =
    let at = goal.at.returns-then-a-first_loop c in
    card_kind c.args.plant.now c.args.a c.arc-arc.result _ (like at.After-arc-arc) c.if-arc-eq-FEED.false
    (omega (arith, first at.After-policy_arc, c.if-a-policy_arc.true))
    (omega (arith, count at.After-arcs, c.if-a-first_loop.true))

pub returns-else-a-first_loop : goal.returns-else-a-first_loop
returns-else-a-first_loop c =
    let at = goal.at.returns-else-a-first_loop c in
    loop_kind c.args.plant.now c.args.a c.arc-arc.result _ (like at.After-arc-arc) c.if-arc-eq-FEED.false
    (omega (arith, count at.After-arcs, c.if-a-first_loop.false))

pub returns-then-arc : goal.returns-then-arc
returns-then-arc c =
    let at = goal.at.returns-then-arc c in
    part_kind c.args.plant.now c.args.a c.arc-arc.result _ (like at.After-arc-arc) c.if-arc-eq-FEED.false
    (omega (arith, first at.After-policy_arc, c.if-a-policy_arc.false)) c.if-arc.true

pub returns-then-arc-2 : goal.returns-then-arc-2
returns-then-arc-2 c =
    let at = goal.at.returns-then-arc-2 c in
    server_kind c.args.plant.now c.args.a c.arc-arc.result _ (like at.After-arc-arc) c.if-arc-eq-FEED.false
    (omega (arith, first at.After-policy_arc, c.if-a-policy_arc.false)) c.if-arc.false c.if-arc-2.true

pub returns-else-arc-2 : goal.returns-else-arc-2
returns-else-arc-2 c =
    let at = goal.at.returns-else-arc-2 c in
    order_kind c.args.plant.now c.args.a c.arc-arc.result _ (like at.After-arc-arc) c.if-arc-eq-FEED.false
    (omega (arith, first at.After-policy_arc, c.if-a-policy_arc.false)) c.if-arc.false c.if-arc-2.false

use Rattle.std.proofs.Common.{[], refl, ◌∙◌, arith}
use Rattle.what_if.proofs.Made.{copied, made_none, made_room, copied_more, copied_all}
use Rattle.what_if.proofs.copies.rows_of.Goals as goal

pub loop-t-init : goal.loop-t-init
loop-t-init c =
    made_none (copied c.args.table.now.rows) c.stations-stations.result _ refl c.in_ok-rows.ensures.items c.in_ok-rows.ensures.len c.in_ok-rows.ensures.capacity

pub push_reserved-requires : goal.push_reserved-requires
push_reserved-requires c =
    made_room (copied c.args.table.now.rows) c.stations-stations.result _ _ c.loop-t.invariant c.loop-t-test.true

pub loop-t-preserved : goal.loop-t-preserved
loop-t-preserved c =
    copied_more c.args.table.now.rows c.stations-stations.result c.loop-t.t [] _ _ _
    (omega (arith, c.loop-t-test.true, c.stations-stations.ensures.stations, c.stations-stations.ensures.least.a_row_each))
    (c.in_ok-of.ensures ∙ c.dates.ensures.dates) c.loop-t.invariant
    c.push_reserved.ensures.items c.push_reserved.ensures.len c.push_reserved.ensures.capacity

pub returns-clause-rows : goal.returns-clause-rows
returns-clause-rows c =
    copied_all c.args.table.now.rows c.stations-stations.result c.loop-t.t _
    (omega (arith, c.loop-t-test.false, c.stations-stations.ensures.stations, c.stations-stations.ensures.least.a_row_each))
    c.loop-t.invariant

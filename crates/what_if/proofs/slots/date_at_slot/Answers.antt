use Rattle.std.proofs.Common.{◌<◌, ◌+◌, ◌/◌, ◌%◌, ap, ◌∙◌, arith}
use Rattle.std.proofs.Math.Nat.{mod-lt}
use Rattle.event_graph.specs.Network.{stations, jobs}
use Rattle.what_if.specs.Page.{slot}
use Rattle.what_if.proofs.SlotOrder.{slot-of_number, job-of_number}
use Rattle.what_if.proofs.slots.date_at_slot.Goals as goal

pub returns-clause-slot : goal.returns-clause-slot
returns-clause-slot c =
    let l = c.args.live.now in
    let at = c.args.at in
    let t = c.station_at.result in
    let width = c.stations-stations.ensures.count ∙ ap stations c.graph.ensures.graph in
    ap (λ w. slot l t (at / w + 1)) width
    ∙ slot-of_number l t at (c.station_at.ensures.rank ∙ ap (λ w. at % w) width)

pub nonzero_rem-at : goal.nonzero_rem-at
nonzero_rem-at c = omega (arith, c.stations-stations.ensures.count, c.stations-stations.ensures.limits.some_station)

pub station_at-requires : goal.station_at-requires
station_at-requires c =
    let width = c.stations-stations.ensures.count ∙ ap stations c.graph.ensures.graph in
    omega (arith, width, mod-lt c.args.at (nonzero_rem-at c))

pub nonzero_div-result : goal.nonzero_div-result
nonzero_div-result c =
    omega (arith, c.stations-stations.ensures.count, c.stations-stations.ensures.limits.some_station)

job : (c : goal.After-station_at) → c.args.at / c.stations-stations.result < jobs c.args.live.now.graph
job c =
    let g = c.args.live.now.graph in
    let width = c.stations-stations.ensures.count ∙ ap stations c.graph.ensures.graph in
    omega (arith, job-of_number g c.args.at (omega (arith, width, nonzero_div-result c)) c.requires, ap (λ w. c.args.at / w) width)

pub overflow_add-result : goal.overflow_add-result
overflow_add-result c =
    omega (arith, job c, ap jobs c.graph.ensures.graph, c.stations-stations.ensures.limits.few_jobs)

pub returns-clause-date : goal.returns-clause-date
returns-clause-date c = record {
  station = c.station_at.ensures.exists;
  from_one = omega arith;
  job = omega (arith, job c);
}

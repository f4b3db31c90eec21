use Rattle.std.proofs.Common.{◌≡◌, ◌<◌, max, [], length, get_or, ap, ◌∙◌, subst, arith}
use Rattle.plant_model.specs.declared.plant.Plant.{Plant}
use Rattle.plant_model.specs.Graph.{graph}
use Rattle.event_graph.specs.Network.{jobs}
use Rattle.event_graph.specs.Table.{date_in}
use Rattle.line_core.proofs.Searches.{ord_max-nat}
use Rattle.line_stats.specs.Counts.{backlog}
use Rattle.line_stats.proofs.PlantTables.{exists_in}
use Rattle.line_summary.proofs.Backlogs.{IsMostSoFar, IsMostSoFar-begins, IsMostSoFar-goes, most_backlog-is}
use Rattle.line_summary.proofs.waits.most_backlog.Goals as goal

pub loop-date-init : goal.loop-date-init
loop-date-init c = IsMostSoFar-begins _ _

pub loop-date-preserved : goal.loop-date-preserved
loop-date-preserved c =
    let p = c.args.plant.now in
    let d = c.args.table.now in
    let k = c.loop-date.date-index in
    let date = get_or c.dates-date-items.result.now k 0 in
    let row = c.dates-date-items.ensures.dates in
    let inside : k < length (get_or d.rows 0 []) = omega (arith, c.loop-date-test.true, ap length row) in
    let next = c.backlog.ensures.count ∙ ap (λ (q : Plant). backlog q (date_in d.rows) date) c.requires.numbers in
    let greater : c.max-most.result ≡ max c.loop-date.most c.backlog.result = c.max-most.ensures ∙ ord_max-nat c.loop-date.most c.backlog.result in
    IsMostSoFar-goes p d c.requires.of_plant c.dates-date-items.ensures.least k c.loop-date.most date c.backlog.result c.max-most.result inside (ap (λ r. get_or r k 0) row) next greater c.loop-date.invariant

pub returns : goal.returns
returns c =
    let p = c.args.plant.now in
    let d = c.args.table.now in
    let table = c.stations-stations.ensures.least in
    let long = ap length c.dates-date-items.ensures.dates ∙ table.a_date_each 0 (exists_in p d.graph 0 c.requires.of_plant (omega arith)) ∙ ap jobs c.requires.of_plant in
    let all : c.loop-date.date-index ≡ jobs (graph p) = omega (arith, long) in
    record {
      most = most_backlog-is p d c.requires.of_plant table c.loop-date.most (subst (λ n. IsMostSoFar p d n c.loop-date.most) all c.loop-date.invariant);
      least = table;
    }

use Rattle.std.proofs.Common.{arith}
use Rattle.plant_model.specs.Line.{last_machine}
use Rattle.event_graph.specs.Table.{date_in}
use Rattle.line_stats.proofs.PlantTables.{done_in, exists_in, numbered_in, travel-read, arrived-after, arrived-before}
use Rattle.line_stats.proofs.RisingDates.{lists_keep_order}
use Rattle.line_stats.proofs.counts.parts_arrived.Goals as goal

pub jobs_done-requires-clause-station : goal.jobs_done-requires-clause-station
jobs_done-requires-clause-station c =
    let last = numbered_in c.args.plant.now _ c.last_machine.result (λ q. last_machine q c.args.stage) c.requires.numbers c.last_machine.ensures.station c.last_machine.ensures.exists in
    exists_in c.args.plant.now c.args.table.now.graph c.last_machine.result c.requires.of_plant last.1

pub jobs_done-requires-clause-order : goal.jobs_done-requires-clause-order
jobs_done-requires-clause-order c = lists_keep_order c.args.plant.now c.args.table.now.graph c.requires.of_plant

pub returns-in-Some : goal.returns-in-Some
returns-in-Some c =
    let p = c.args.plant.now in
    let d = c.args.table.now in
    let x = date_in d.rows in
    let travel = travel-read p c.args.stage c.as_slice.result.now c.index-as_slice-stage.result c.requires.exists c.as_slice.ensures in
    let left = c.in-Some.ensures in
    let last = numbered_in p _ c.last_machine.result (λ q. last_machine q c.args.stage) c.requires.numbers c.last_machine.ensures.station c.last_machine.ensures.exists in
    let made = done_in p d.graph x c.last_machine.result (last_machine p c.args.stage) c.in-Some.left c.jobs_done.result c.requires.of_plant last.0 c.jobs_done.ensures.count in
    arrived-after p x c.args.stage c.args.at c.in-Some.left c.jobs_done.result (omega arith) (omega arith) made

pub returns-in-None : goal.returns-in-None
returns-in-None c =
    let p = c.args.plant.now in
    let x = date_in c.args.table.now.rows in
    let travel = travel-read p c.args.stage c.as_slice.result.now c.index-as_slice-stage.result c.requires.exists c.as_slice.ensures in
    let late = c.in-None.ensures in
    arrived-before p x c.args.stage c.args.at (omega arith)

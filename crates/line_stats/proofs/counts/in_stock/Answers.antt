use Rattle.std.proofs.Common.{◌+◌, sym, arith}
use Rattle.plant_model.specs.Line.{receiver, starting}
use Rattle.plant_model.specs.Graph.{graph}
use Rattle.event_graph.specs.Table.{date_in}
use Rattle.line_stats.specs.Counts.{jobs_done, parts_arrived, in_stock}
use Rattle.line_stats.proofs.Flows.{stock-flow}
use Rattle.line_stats.proofs.PlantTables.{AreCounted, done_in, numbered_in, exists_in, solves_in, arrived-small, starting-small}
use Rattle.line_stats.proofs.RisingDates.{lists_keep_order}
use Rattle.line_stats.proofs.counts.in_stock.Goals.{After-parts_arrived}
use Rattle.line_stats.proofs.counts.in_stock.Goals as goal

pub receiver-requires-clause-plant : goal.receiver-requires-clause-plant
receiver-requires-clause-plant c = sym c.requires.numbers

pub jobs_done-taken-requires-clause-station : goal.jobs_done-taken-requires-clause-station
jobs_done-taken-requires-clause-station c =
    let takes = numbered_in c.args.plant.now _ c.receiver.result (λ q. receiver q c.args.stage) c.requires.numbers c.receiver.ensures.station c.receiver.ensures.exists in
    exists_in c.args.plant.now c.args.table.now.graph c.receiver.result c.requires.of_plant takes.1

pub jobs_done-taken-requires-clause-order : goal.jobs_done-taken-requires-clause-order
jobs_done-taken-requires-clause-order c = lists_keep_order c.args.plant.now c.args.table.now.graph c.requires.of_plant

-- what was counted of the stock at the start and of what has arrived, and at the station that takes the parts
counted : (c : After-parts_arrived) → (let p = c.args.plant.now in let x = date_in c.args.table.now.rows in AreCounted (c.starting.result + c.parts_arrived.result) c.jobs_done-taken.result (starting p c.args.stage + parts_arrived p x c.args.stage c.args.at) (jobs_done (graph p) x (receiver p c.args.stage) c.args.at))
counted c =
    let p = c.args.plant.now in
    let d = c.args.table.now in
    let x = date_in d.rows in
    let takes = numbered_in p _ c.receiver.result (λ q. receiver q c.args.stage) c.requires.numbers c.receiver.ensures.station c.receiver.ensures.exists in
    let taken = done_in p d.graph x c.receiver.result (receiver p c.args.stage) c.args.at c.jobs_done-taken.result c.requires.of_plant takes.0 c.jobs_done-taken.ensures.count in
    let flow = stock-flow p x c.args.stage c.args.at c.requires.sound (solves_in p d c.requires.of_plant c.jobs_done-taken.ensures.least) c.requires.exists in
    record {
      all_is = omega (arith, c.starting.ensures, c.parts_arrived.ensures);
      gone_is = taken;
      order = omega (arith, c.starting.ensures, c.parts_arrived.ensures);
    }

pub overflow_add-result : goal.overflow_add-result
overflow_add-result c =
    let p = c.args.plant.now in
    let x = date_in c.args.table.now.rows in
    omega (arith, starting-small p c.args.stage c.requires.sound c.requires.exists, arrived-small p x c.args.stage c.args.at c.requires.sound, c.starting.ensures, c.parts_arrived.ensures)

pub overflow_sub-result : goal.overflow_sub-result
overflow_sub-result c = (counted (goal.at.overflow_sub-result c).After-parts_arrived).order

pub returns : goal.returns
unfolding in_stock
returns c = let counted = counted (goal.at.returns c).After-parts_arrived in record { count = omega arith; balance = omega arith }

use Rattle.std.proofs.Common.{arith}
use Rattle.plant_model.specs.Line.{last_machine}
use Rattle.plant_model.specs.Graph.{graph}
use Rattle.event_graph.specs.Table.{date_in}
use Rattle.line_stats.specs.Counts.{jobs_done, parts_arrived, in_move}
use Rattle.line_stats.proofs.Flows.{move-flow}
use Rattle.line_stats.proofs.PlantTables.{AreCounted, done_in, exists_in, numbered_in}
use Rattle.line_stats.proofs.RisingDates.{lists_keep_order}
use Rattle.line_stats.proofs.counts.in_move.Goals.{After-parts_arrived}
use Rattle.line_stats.proofs.counts.in_move.Goals as goal

pub jobs_done-requires-clause-station : goal.jobs_done-requires-clause-station
jobs_done-requires-clause-station c =
    let last = numbered_in c.args.plant.now _ c.last_machine.result (λ q. last_machine q c.args.stage) c.requires.numbers c.last_machine.ensures.station c.last_machine.ensures.exists in
    exists_in c.args.plant.now c.args.table.now.graph c.last_machine.result c.requires.of_plant last.1

pub jobs_done-requires-clause-order : goal.jobs_done-requires-clause-order
jobs_done-requires-clause-order c = lists_keep_order c.args.plant.now c.args.table.now.graph c.requires.of_plant

-- what was counted at the last machine, and of what has arrived
counted : (c : After-parts_arrived) → (let x = date_in c.args.table.now.rows in AreCounted c.jobs_done.result c.parts_arrived.result (jobs_done (graph c.args.plant.now) x (last_machine c.args.plant.now c.args.stage) c.args.at) (parts_arrived c.args.plant.now x c.args.stage c.args.at))
counted c =
    let p = c.args.plant.now in
    let d = c.args.table.now in
    let x = date_in d.rows in
    let last = numbered_in p _ c.last_machine.result (λ q. last_machine q c.args.stage) c.requires.numbers c.last_machine.ensures.station c.last_machine.ensures.exists in
    let made = done_in p d.graph x c.last_machine.result (last_machine p c.args.stage) c.args.at c.jobs_done.result c.requires.of_plant last.0 c.jobs_done.ensures.count in
    let flow = move-flow p x c.args.stage c.args.at in
    record { all_is = made; gone_is = c.parts_arrived.ensures; order = omega (arith, c.parts_arrived.ensures) }

pub overflow_sub-result : goal.overflow_sub-result
overflow_sub-result c = (counted (goal.at.overflow_sub-result c).After-parts_arrived).order

pub returns : goal.returns
unfolding in_move
returns c = let counted = counted (goal.at.returns c).After-parts_arrived in record { count = omega arith; balance = omega arith }

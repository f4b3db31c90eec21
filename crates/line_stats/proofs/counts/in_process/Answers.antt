use Rattle.std.proofs.Common.{ℕ, arith}
use Rattle.plant_model.specs.Line.{release, last_machine}
use Rattle.plant_model.specs.Graph.{graph}
use Rattle.event_graph.specs.Table.{date_in}
use Rattle.line_stats.specs.Counts.{jobs_done, in_process}
use Rattle.line_stats.proofs.Flows.{process-flow}
use Rattle.line_stats.proofs.PlantTables.{AreCounted, counted_in, exists_in}
use Rattle.line_stats.proofs.RisingDates.{lists_keep_order}
use Rattle.line_stats.proofs.counts.in_process.Goals.{After-jobs_done-2}
use Rattle.line_stats.proofs.counts.in_process.Goals as goal

pub jobs_done-requires-clause-station : goal.jobs_done-requires-clause-station
jobs_done-requires-clause-station c =
    exists_in c.args.numbers.now c.args.table.now.graph c.release.result c.requires.of_plant c.release.ensures.exists

pub jobs_done-requires-clause-order : goal.jobs_done-requires-clause-order
jobs_done-requires-clause-order c = lists_keep_order c.args.numbers.now c.args.table.now.graph c.requires.of_plant

pub jobs_done-requires-2-clause-station : goal.jobs_done-requires-2-clause-station
jobs_done-requires-2-clause-station c =
    exists_in c.args.numbers.now c.args.table.now.graph c.last_machine.result c.requires.of_plant c.last_machine.ensures.exists

pub jobs_done-requires-2-clause-order : goal.jobs_done-requires-2-clause-order
jobs_done-requires-2-clause-order c = lists_keep_order c.args.numbers.now c.args.table.now.graph c.requires.of_plant

-- what was counted at the release and at the last machine
counted : (c : After-jobs_done-2) → (let at = λ (t : ℕ). jobs_done (graph c.args.numbers.now) (date_in c.args.table.now.rows) t c.args.at in AreCounted c.jobs_done.result c.jobs_done-2.result (at (release c.args.numbers.now c.args.stage)) (at (last_machine c.args.numbers.now c.args.stage)))
counted c =
    let p = c.args.numbers.now in
    let d = c.args.table.now in
    counted_in p d c.release.result (release p c.args.stage) c.last_machine.result (last_machine p c.args.stage) c.args.at c.jobs_done.result c.jobs_done-2.result c.requires.of_plant c.jobs_done.ensures.least c.release.ensures.station c.last_machine.ensures.station c.jobs_done.ensures.count c.jobs_done-2.ensures.count (λ solves. process-flow p (date_in d.rows) c.args.stage c.args.at c.requires.sound solves c.requires.exists)

pub overflow_sub-result : goal.overflow_sub-result
overflow_sub-result c = (counted (goal.at.overflow_sub-result c).After-jobs_done-2).order

pub returns : goal.returns
unfolding in_process
returns c = let counted = counted (goal.at.returns c).After-jobs_done-2 in record { count = omega arith; balance = omega arith }

use Rattle.std.proofs.Common.{ℕ, refl, arith}
use Rattle.plant_model.specs.Line.{deliver}
use Rattle.plant_model.specs.Graph.{graph}
use Rattle.event_graph.specs.Table.{date_in}
use Rattle.line_stats.specs.Counts.{jobs_done, backlog}
use Rattle.line_stats.proofs.Flows.{delivery-flow}
use Rattle.line_stats.proofs.PlantTables.{AreCounted, counted_in, exists_in}
use Rattle.line_stats.proofs.RisingDates.{lists_keep_order}
use Rattle.line_stats.proofs.counts.backlog.Goals.{After-jobs_done-2}
use Rattle.line_stats.proofs.counts.backlog.Goals as goal

pub jobs_done-requires-clause-order : goal.jobs_done-requires-clause-order
jobs_done-requires-clause-order c = lists_keep_order c.args.numbers.now c.args.table.now.graph c.requires.of_plant

pub jobs_done-requires-2-clause-station : goal.jobs_done-requires-2-clause-station
jobs_done-requires-2-clause-station c =
    exists_in c.args.numbers.now c.args.table.now.graph c.deliver.result c.requires.of_plant c.deliver.ensures.exists

pub jobs_done-requires-2-clause-order : goal.jobs_done-requires-2-clause-order
jobs_done-requires-2-clause-order c = lists_keep_order c.args.numbers.now c.args.table.now.graph c.requires.of_plant

-- what was counted at the feed and at the delivery
counted : (c : After-jobs_done-2) → (let at = λ (t : ℕ). jobs_done (graph c.args.numbers.now) (date_in c.args.table.now.rows) t c.args.at in AreCounted c.jobs_done.result c.jobs_done-2.result (at 0) (at (deliver c.args.numbers.now)))
counted c =
    let p = c.args.numbers.now in
    let d = c.args.table.now in
    counted_in p d 0 0 c.deliver.result (deliver p) c.args.at c.jobs_done.result c.jobs_done-2.result c.requires.of_plant c.jobs_done.ensures.least refl c.deliver.ensures.station c.jobs_done.ensures.count c.jobs_done-2.ensures.count (delivery-flow p (date_in d.rows) c.args.at)

pub overflow_sub-result : goal.overflow_sub-result
overflow_sub-result c = (counted (goal.at.overflow_sub-result c).After-jobs_done-2).order

pub returns : goal.returns
unfolding backlog
returns c = let counted = counted (goal.at.returns c).After-jobs_done-2 in record { count = omega arith; balance = omega arith }

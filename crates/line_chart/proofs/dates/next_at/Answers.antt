use Rattle.std.proofs.Common.{sym, subst}
use Rattle.std.specs.List.Sorted.{IsNonDecreasing}
use Rattle.line_stats.proofs.PlantTables.{exists_in}
use Rattle.line_stats.proofs.RisingDates.{row-rises, lists_keep_order}
use Rattle.line_chart.specs.Counts.{NoneBetween}
use Rattle.line_chart.proofs.dates.next_at.Goals as goal

pub dates-requires : goal.dates-requires
dates-requires c = exists_in c.args.run.now.plant c.args.run.now.table.graph c.args.t c.requires.run.of_plant.table_graph c.requires.station

pub first_after-requires-clause-order : goal.first_after-requires-clause-order
first_after-requires-clause-order c =
    let d = c.args.run.now.table in
    let p = c.args.run.now.plant in
    let is = c.requires.run.of_plant.table_graph in
    subst IsNonDecreasing (sym c.dates.ensures.dates) (row-rises d c.args.t c.dates.ensures.least (lists_keep_order p d.graph is) (exists_in p d.graph c.args.t is c.requires.station))

pub returns-clause-none : goal.returns-clause-none
returns-clause-none c =
    subst (λ row. NoneBetween row c.args.late c.args.at c.first_after.result) c.dates.ensures.dates c.first_after.ensures.none

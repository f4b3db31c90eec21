use Rattle.std.proofs.Common.{get_or, [], sym, ap, ◌∙◌, subst}
use Rattle.plant_model.specs.Line.{deliver}
use Rattle.event_graph.specs.Table.{date_in}
use Rattle.line_chart.specs.Areas.{count_of}
use Rattle.line_chart.specs.Counts.{NoneBetween, IsStill}
use Rattle.line_chart.proofs.StillCounts.{NoneBetween-sooner, backlog-still}
use Rattle.line_chart.proofs.dates.next_date.Goals as goal

pub returns-in-Backlog-clause-still : goal.returns-in-Backlog-clause-still
returns-in-Backlog-clause-still c =
    let p = c.args.run.now.plant in
    let d = c.args.run.now.table in
    let at_end = c.deliver.ensures.station ∙ ap deliver c.requires.run.numbers in
    let demanded = NoneBetween-sooner (get_or d.rows 0 []) 0 c.args.at c.next_at-demanded.result c.next_at.result c.next_at.ensures.within c.next_at-demanded.ensures.none in
    let delivered = subst (λ t. NoneBetween (get_or d.rows t []) 0 c.args.at c.next_at.result) at_end c.next_at.ensures.none in
    subst (λ k. IsStill (count_of p (date_in d.rows) k) c.args.at c.next_at.result) (sym c.in-Backlog.is)
    (backlog-still p d c.args.at c.next_at.result c.next_at.ensures.least c.requires.run.of_plant.table_graph demanded delivered)

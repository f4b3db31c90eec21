use Rattle.std.proofs.Common.{ap, ◌∙◌}
use Rattle.plant_model.specs.declared.plant.Plant.{Plant}
use Rattle.event_graph.specs.Table.{date_in}
use Rattle.line_stats.specs.Counts.{standing, backlog}
use Rattle.line_chart.proofs.dates.count_at.Goals as goal

pub returns-in-Parts : goal.returns-in-Parts
unfolding standing
returns-in-Parts c = rw (c.in-Parts.is, c.under_way.ensures.count, c.in_stock.ensures.count)

pub returns-in-Backlog : goal.returns-in-Backlog
returns-in-Backlog c =
    let of = λ (p : Plant). backlog p (date_in c.args.run.now.table.rows) c.args.at in
    rw c.in-Backlog.is (c.backlog.ensures.count ∙ ap of c.requires.run.numbers)

use Rattle.std.proofs.Common.{◌≡◌, ◌≤◌, ◌-◌}
use Rattle.event_graph.specs.Table.{date_in}
use Rattle.line_chart.specs.Areas.{count_of, most}
use Rattle.line_chart.proofs.areas.most.Given as goal

-- the greatest count before this date
abbrev pub invariant-loop-date : goal.invariant-loop-date
invariant-loop-date l =
    (l.most ≡ most (count_of l.run.plant (date_in l.run.table.rows) l.count) l.run.window.from l.date)
    × (l.run.window.from ≤ l.date)
    × (l.date ≤ l.end)

abbrev pub decreases-loop-date : goal.decreases-loop-date
decreases-loop-date l = l.end - l.date

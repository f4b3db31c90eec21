use Rattle.std.proofs.Common.{◌≡◌, length}
use Rattle.event_graph.specs.Table.{date_in}
use Rattle.line_chart.proofs.ChartLines.{first_bars}
use Rattle.line_chart.proofs.bars.count_bars_of.Given as goal

-- the bars of the jobs before
abbrev pub invariant-loop-before : goal.invariant-loop-before
invariant-loop-before l = l.count ≡ length (first_bars l.graph (date_in l.table.rows) l.window l.machine l.before)

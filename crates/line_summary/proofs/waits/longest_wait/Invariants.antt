use Rattle.event_graph.specs.Table.{date_in}
use Rattle.line_summary.specs.Waits.{wait}
use Rattle.line_summary.proofs.Longest.{IsLongest}
use Rattle.line_summary.proofs.waits.longest_wait.Given as goal

abbrev pub invariant-loop-before : goal.invariant-loop-before
invariant-loop-before l = IsLongest (wait l.table.graph (date_in l.table.rows)) l.before l.most l.job

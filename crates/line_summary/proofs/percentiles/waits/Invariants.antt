use Rattle.std.proofs.Common.{◌≡◌, map}
use Rattle.std.specs.List.{range_with_len}
use Rattle.event_graph.specs.Table.{date_in}
use Rattle.line_summary.specs.Waits.{wait}
use Rattle.line_summary.proofs.percentiles.waits.Given as goal

-- the waits of the jobs before
abbrev pub invariant-loop-before : goal.invariant-loop-before
invariant-loop-before l = l.list.items ≡ map (wait l.table.graph (date_in l.table.rows)) (range_with_len 1 l.before)

use Rattle.std.proofs.Common.{◌≡◌, ◌-◌, ◌≤◌, length, take}
use Rattle.event_graph.specs.Table.{date_in}
use Rattle.line_report.specs.Portions.{numbered_lines}
use Rattle.line_report.proofs.portion.write_lines.Given as goal

-- the lines before the next one are there
abbrev pub invariant-loop-next : goal.invariant-loop-next
invariant-loop-next l = record {
  begun : l.from ≤ l.next;
  within : l.next ≤ l.to;
  room : l.end ≤ length l.room;
  size : length l.room ≡ length l.fn.room;
  lines : take l.end l.room ≡ numbered_lines l.graph (date_in l.table.rows) l.from (l.next - l.from);
}

abbrev pub decreases-loop-next : goal.decreases-loop-next
decreases-loop-next l = l.to - l.next

use Rattle.std.proofs.Common.{◌≡◌, ◌-◌, ◌≤◌, length}
use Rattle.outside_io.specs.Outgoing.{Pushed, stream}
use Rattle.event_graph.specs.Table.{date_in}
use Rattle.line_report.specs.Portions.{numbered_lines}
use Rattle.line_report.proofs.dates.write_dates.Given as goal

-- the rounds before are written
abbrev pub invariant-loop-next : goal.invariant-loop-next
invariant-loop-next g l = record {
  within : l.next ≤ l.lines;
  number : length l.portions ≡ length l.initial.portions;
  lines : Pushed (stream (g.K.Sink.shown l.initial.sink) l.initial.out)
      (stream (g.K.Sink.shown l.sink) l.out)
      (numbered_lines l.graph (date_in l.table.rows) 0 l.next);
}

abbrev pub decreases-loop-next : goal.decreases-loop-next
decreases-loop-next g l = l.lines - l.next

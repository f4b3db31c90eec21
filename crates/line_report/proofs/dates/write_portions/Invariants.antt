use Rattle.std.proofs.Common.{◌≡◌, ◌-◌, ◌≤◌}
use Rattle.outside_io.specs.Outgoing.{Pushed, stream}
use Rattle.event_graph.specs.Table.{date_in}
use Rattle.line_report.specs.Portions.{numbered_lines, share_start}
use Rattle.line_report.proofs.dates.write_portions.Given as goal

-- the shares before are written
abbrev pub invariant-loop-portion : goal.invariant-loop-portion
invariant-loop-portion g l = record {
  at : l.next ≡ share_start l.from l.to l.each l.portion-index;
  begun : l.from ≤ l.next;
  within : l.next ≤ l.to;
  lines : Pushed (stream (g.K.Sink.shown l.initial.sink) l.initial.out)
      (stream (g.K.Sink.shown l.sink) l.out)
      (numbered_lines l.graph (date_in l.table.rows) l.from (l.next - l.from));
}

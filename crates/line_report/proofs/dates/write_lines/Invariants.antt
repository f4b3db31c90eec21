use Rattle.std.proofs.Common.{◌-◌}
use Rattle.outside_io.specs.Outgoing.{Pushed, stream}
use Rattle.event_graph.specs.Table.{date_in}
use Rattle.line_report.specs.Portions.{numbered_lines}
use Rattle.line_report.proofs.dates.write_lines.Given as goal

-- the lines before are written
abbrev pub invariant-loop-i : goal.invariant-loop-i
invariant-loop-i g l =
    Pushed (stream (g.K.Sink.shown l.initial.sink) l.initial.out)
    (stream (g.K.Sink.shown l.sink) l.out)
    (numbered_lines l.graph (date_in l.table.rows) l.from (l.i - l.from))

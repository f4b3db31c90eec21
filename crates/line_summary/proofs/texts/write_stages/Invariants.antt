use Rattle.outside_io.specs.Outgoing.{stream}
use Rattle.event_graph.specs.Table.{date_in}
use Rattle.line_report.proofs.Lines.{AreWritten}
use Rattle.line_summary.specs.SummaryText.{stage_line}
use Rattle.line_summary.proofs.texts.write_stages.Given as goal

-- the lines of the stages before are written
abbrev pub invariant-loop-stage : goal.invariant-loop-stage
invariant-loop-stage g l =
    AreWritten (stage_line l.line.plant (date_in l.line.table.rows)) l.stage (stream (g.K.Sink.shown l.initial.sink) l.initial.out) (stream (g.K.Sink.shown l.sink) l.out)

use Rattle.std.specs.Prelude.{take}
use Rattle.std.specs.List.{flat_map}
use Rattle.outside_io.specs.Outgoing.{Pushed, stream}
use Rattle.event_graph.specs.Table.{date_in}
use Rattle.line_report.specs.ReportText.{observed_lines}
use Rattle.line_report.proofs.observed.write_observed.Given as goal

-- the lines of the dates before are written
abbrev pub invariant-loop-at : goal.invariant-loop-at
invariant-loop-at g l =
    Pushed (stream (g.K.Sink.shown l.initial.sink) l.initial.out)
    (stream (g.K.Sink.shown l.sink) l.out)
    (flat_map (observed_lines l.run.plant (date_in l.run.table.rows)) (take l.at-index l.run.plant.observe))

use Rattle.std.specs.List.{flat_map, range_with_len}
use Rattle.outside_io.specs.Outgoing.{Pushed, stream}
use Rattle.event_graph.specs.Table.{date_in}
use Rattle.line_chart.specs.TableText.{stage_records}
use Rattle.line_chart.proofs.records.write_stages.Given as goal

-- the records of earlier stages are written
abbrev pub invariant-loop-stage : goal.invariant-loop-stage
invariant-loop-stage g l =
    Pushed (stream (g.K.Sink.shown l.initial.sink) l.initial.out)
    (stream (g.K.Sink.shown l.sink) l.out)
    (flat_map (stage_records l.run.plant (date_in l.run.table.rows)) (range_with_len 0 l.stage))

use Rattle.std.specs.List.{flat_map, range_with_len}
use Rattle.outside_io.specs.Outgoing.{Pushed, stream}
use Rattle.event_graph.specs.Table.{date_in}
use Rattle.line_chart.specs.TableText.{job_record}
use Rattle.line_chart.proofs.records.write_station.Given as goal

-- the records of the jobs before are written
abbrev pub invariant-loop-before : goal.invariant-loop-before
invariant-loop-before g l =
    Pushed (stream (g.K.Sink.shown l.initial.sink) l.initial.out)
    (stream (g.K.Sink.shown l.sink) l.out)
    (flat_map (job_record l.graph (date_in l.table.rows) l.ahead l.machine l.t) (range_with_len 1 l.before))

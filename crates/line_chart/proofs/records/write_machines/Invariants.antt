use Rattle.std.specs.List.{flat_map, range_with_len}
use Rattle.outside_io.specs.Outgoing.{Pushed, stream}
use Rattle.event_graph.specs.Table.{date_in}
use Rattle.line_chart.specs.TableText.{machine_records_behind}
use Rattle.line_chart.proofs.records.write_machines.Given as goal

-- the records of the machines before are written
abbrev pub invariant-loop-machine : goal.invariant-loop-machine
invariant-loop-machine g l =
    Pushed (stream (g.K.Sink.shown l.initial.sink) l.initial.out)
    (stream (g.K.Sink.shown l.sink) l.out)
    (flat_map (machine_records_behind l.graph (date_in l.table.rows) l.ahead l.release) (range_with_len 0 l.machine))

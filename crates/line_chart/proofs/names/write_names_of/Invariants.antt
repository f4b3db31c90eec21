use Rattle.std.specs.List.{flat_map, range_with_len}
use Rattle.outside_io.specs.Outgoing.{Pushed, stream}
use Rattle.line_chart.specs.ChartText.{lane_line}
use Rattle.line_chart.proofs.names.write_names_of.Given as goal

-- the names of earlier lanes are written
abbrev pub invariant-loop-lane : goal.invariant-loop-lane
invariant-loop-lane g l =
    Pushed (stream (g.K.Sink.shown l.initial.sink) l.initial.out)
    (stream (g.K.Sink.shown l.sink) l.out)
    (flat_map (lane_line l.graph l.machine) (range_with_len 0 l.lane))

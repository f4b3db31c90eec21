use Rattle.std.specs.Prelude.{take}
use Rattle.std.specs.List.{flat_map}
use Rattle.outside_io.specs.Outgoing.{Pushed, stream}
use Rattle.plant_model.specs.Graph.{graph}
use Rattle.line_chart.specs.ChartText.{lane_lines}
use Rattle.line_chart.proofs.names.write_names.Given as goal

-- the names of the machines before are written
abbrev pub invariant-loop-number : goal.invariant-loop-number
invariant-loop-number g l =
    Pushed (stream (g.K.Sink.shown l.initial.sink) l.initial.out)
    (stream (g.K.Sink.shown l.sink) l.out)
    (flat_map (lane_lines (graph l.run.plant)) (take l.number l.run.machines.items))

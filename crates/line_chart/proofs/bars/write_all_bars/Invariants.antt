use Rattle.std.specs.Prelude.{take}
use Rattle.std.specs.List.{flat_map}
use Rattle.outside_io.specs.Outgoing.{Pushed, stream}
use Rattle.plant_model.specs.Graph.{graph}
use Rattle.event_graph.specs.Table.{date_in}
use Rattle.line_chart.specs.Bars.{machine_bars}
use Rattle.line_chart.specs.ChartText.{bar_line}
use Rattle.line_chart.proofs.bars.write_all_bars.Given as goal

-- the bars of the machines before are written
abbrev pub invariant-loop-number : goal.invariant-loop-number
invariant-loop-number g l =
    Pushed (stream (g.K.Sink.shown l.initial.sink) l.initial.out)
    (stream (g.K.Sink.shown l.sink) l.out)
    (flat_map bar_line (flat_map (machine_bars (graph l.run.plant) (date_in l.run.table.rows) l.run.window) (take l.number l.run.machines.items)))

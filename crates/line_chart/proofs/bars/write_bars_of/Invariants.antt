use Rattle.std.specs.List.{flat_map}
use Rattle.outside_io.specs.Outgoing.{Pushed, stream}
use Rattle.event_graph.specs.Table.{date_in}
use Rattle.line_chart.specs.ChartText.{bar_line}
use Rattle.line_chart.proofs.ChartLines.{first_bars}
use Rattle.line_chart.proofs.bars.write_bars_of.Given as goal

-- the bars of the jobs before are written
abbrev pub invariant-loop-before : goal.invariant-loop-before
invariant-loop-before g l =
    Pushed (stream (g.K.Sink.shown l.initial.sink) l.initial.out)
    (stream (g.K.Sink.shown l.sink) l.out)
    (flat_map bar_line (first_bars l.graph (date_in l.table.rows) l.window l.machine l.before))

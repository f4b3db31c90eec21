use Rattle.std.proofs.Common.{◌≡◌, ◌≤◌, ◌<◌, ◌-◌}
use Rattle.outside_io.specs.Outgoing.{Pushed, stream}
use Rattle.event_graph.specs.Table.{date_in}
use Rattle.line_chart.specs.Areas.{count_of}
use Rattle.line_chart.proofs.StepLists.{steps_text}
use Rattle.line_chart.proofs.areas.write_path.Given as goal

-- the steps before this date are written, and the height is that of the date before
abbrev pub invariant-loop-date : goal.invariant-loop-date
invariant-loop-date g l =
    Pushed (stream (g.K.Sink.shown l.initial.sink) l.initial.out)
    (stream (g.K.Sink.shown l.sink) l.out)
    (steps_text (count_of l.run.plant (date_in l.run.table.rows) l.count) l.run.window.from l.date)
    × (l.height ≡ count_of l.run.plant (date_in l.run.table.rows) l.count (l.date - 1))
    × (l.run.window.from < l.date)
    × (l.date ≤ l.end)

abbrev pub decreases-loop-date : goal.decreases-loop-date
decreases-loop-date g l = l.end - l.date

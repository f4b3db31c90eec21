use Rattle.std.proofs.Common.{◌+◌, ◌-◌, ◌/◌, ◌≤◌}
use Rattle.outside_io.specs.Outgoing.{Pushed, stream}
use Rattle.line_chart.proofs.AxisFacts.{axis_lines}
use Rattle.line_chart.proofs.axis.write_axis.Given as goal

-- the lines of the multiples before are written
abbrev pub invariant-loop-number : goal.invariant-loop-number
invariant-loop-number g l =
    Pushed (stream (g.K.Sink.shown l.initial.sink) l.initial.out)
    (stream (g.K.Sink.shown l.sink) l.out)
    (axis_lines l.window l.end l.step l.first (l.number - l.first))
    × (l.first ≤ l.number)
    × (l.number - l.first ≤ l.window.to / l.step + 1 - l.first)

use Rattle.std.proofs.Common.{take}
use Rattle.std.specs.List.{flat_map}
use Rattle.outside_io.specs.Outgoing.{Pushed, stream}
use Rattle.line_summary.specs.SummaryText.{machine_line}
use Rattle.line_summary.proofs.texts.write_machines.Given as goal

-- the lines of the machines before are written
abbrev pub invariant-loop-of : goal.invariant-loop-of
invariant-loop-of g l =
    Pushed (stream (g.K.Sink.shown l.initial.sink) l.initial.out)
    (stream (g.K.Sink.shown l.sink) l.out)
    (flat_map (machine_line l.plant l.last) (take l.of-index l.uses))

use Rattle.std.specs.Prelude.{drop}
use Rattle.outside_io.specs.Outgoing.{Stream, Pushed, stream}
use Rattle.line_chart.specs.Interleaved.{interleave}
use Rattle.line_chart.proofs.text.write_interleaved.Given as goal

-- where what is left is written, all is
abbrev pub invariant-loop-before : goal.invariant-loop-before
invariant-loop-before g l =
    (s : Stream) → Pushed (stream (g.K.Sink.shown l.sink) l.out) s (interleave (drop l.before l.texts) (drop l.before l.numbers))
    → Pushed (stream (g.K.Sink.shown l.initial.sink) l.initial.out) s (interleave l.texts l.numbers)

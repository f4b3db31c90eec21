use Rattle.std.specs.List.{flat_map, range_with_len}
use Rattle.outside_io.specs.Outgoing.{Pushed, stream}
use Rattle.date_causes.specs.WhyText.{share_line}
use Rattle.date_causes.proofs.writing.write_shares.Given as goal

-- the lines of the stations before are written
abbrev pub invariant-loop-t : goal.invariant-loop-t
invariant-loop-t g l =
    Pushed (stream (g.K.Sink.shown l.initial.sink) l.initial.out)
    (stream (g.K.Sink.shown l.sink) l.out)
    (flat_map (share_line l.graph l.shares) (range_with_len 0 l.t))

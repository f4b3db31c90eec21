use Rattle.std.proofs.Common.{◌≡◌, ℕ, List, ◌++◌, length}
use Rattle.outside_io.specs.Outgoing.{Pushed, stream}
use Rattle.outside_io.proofs.outgoing.Outgoing.push_long.Given as goal

-- what is done was pushed, and the rest is still to go
abbrev pub invariant-loop-rest : goal.invariant-loop-rest
invariant-loop-rest g l =
    (done : List ℕ)
    × (l.bytes ≡ done ++ l.rest)
    × Pushed (stream (g.K.Sink.shown l.initial.sink) l.initial.self) (stream (g.K.Sink.shown l.sink) l.self) done

abbrev pub decreases-loop-rest : goal.decreases-loop-rest
decreases-loop-rest g l = length l.rest

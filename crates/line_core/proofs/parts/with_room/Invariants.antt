use Rattle.std.proofs.Common.{◌≡◌, take, map}
use Rattle.line_base.specs.Roomy.{dates_of}
use Rattle.line_core.proofs.Runs.{log_of}
use Rattle.line_core.proofs.parts.with_room.Given as goal

abbrev pub invariant-loop-k : goal.invariant-loop-k
invariant-loop-k l =
    l.copy ≡ record { logs = map (log_of l.room) (take l.k (dates_of l.logs)); room = l.number }

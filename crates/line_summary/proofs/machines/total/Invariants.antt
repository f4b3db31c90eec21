use Rattle.std.proofs.Common.{◌≡◌, ◌≤◌, ◌*◌, take, sum}
use Rattle.line_summary.proofs.machines.total.Given as goal

abbrev pub invariant-loop-time : goal.invariant-loop-time
invariant-loop-time l = record { so_far : l.sum ≡ sum (take l.time-index l.times); small : l.sum ≤ l.time-index * 1_000_000_000 }

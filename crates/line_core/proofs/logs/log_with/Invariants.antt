use Rattle.std.proofs.Common.{◌≡◌, take}
use Rattle.line_core.proofs.logs.log_with.Given as goal

abbrev pub invariant-loop-date : goal.invariant-loop-date
invariant-loop-date l = l.log ≡ record { dates = take l.date-index l.dates; room = l.room }

use Rattle.std.proofs.Common.{◌≡◌, ◌++◌}
use Rattle.checkpoint.proofs.writer.gather_dates.Given as goal

-- the dates that are gathered, and those that are left, are those of the tokens
abbrev pub invariant-loop-date : goal.invariant-loop-date
invariant-loop-date l = l.dates.items ++ l.date-iterator ≡ l.initial.date-iterator

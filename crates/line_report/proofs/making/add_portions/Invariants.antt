use Rattle.std.proofs.Common.{◌≡◌, ◌+◌, length}
use Rattle.line_report.proofs.making.add_portions.Given as goal

-- a portion was added for each worker so far
abbrev pub invariant-loop : goal.invariant-loop
invariant-loop l = length l.portions.items ≡ length l.initial.portions.items + l.counter

use Rattle.std.proofs.Common.{◌≤◌}
use Rattle.line_report.proofs.portion.fitting_lines.Given as goal

-- labels are short
abbrev pub invariant-loop-t : goal.invariant-loop-t
invariant-loop-t l = l.longest ≤ 49

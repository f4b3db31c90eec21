use Rattle.std.proofs.Common.{◌≡◌, take}
use Rattle.std.specs.List.{count_by}
use Rattle.plant_lint.specs.Positions.{ends_line}
use Rattle.plant_lint.proofs.position.line_at.Given as goal

abbrev pub invariant-loop-n : goal.invariant-loop-n
invariant-loop-n l = l.ended ≡ count_by ends_line (take l.n l.bytes)

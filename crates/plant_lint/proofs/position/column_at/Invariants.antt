use Rattle.std.proofs.Common.{◌≡◌, ◌≤◌, take}
use Rattle.std.specs.List.{count_by}
use Rattle.plant_lint.specs.Positions.{begins_character, last_line}
use Rattle.plant_lint.proofs.position.column_at.Given as goal

abbrev pub invariant-loop-n : goal.invariant-loop-n
invariant-loop-n l = (l.begun ≡ count_by begins_character (last_line (take l.n l.bytes))) × (l.begun ≤ l.n)

use Rattle.std.proofs.Common.{◌≡◌, filter}
use Rattle.std.specs.List.{range_with_len}
use Rattle.plant_file.specs.Draft.{is_used}
use Rattle.plant_file.proofs.columns.columns_of.Given as goal

abbrev pub invariant-loop-before : goal.invariant-loop-before
invariant-loop-before l = l.columns.items ≡ filter (is_used l.plant) (range_with_len 1 l.before)

use Rattle.std.proofs.Common.{◌≡◌, true}
use Rattle.std.specs.List.{list_all, range_with_len}
use Rattle.plant_check.specs.PlantNotes.{goes_by_one_at}
use Rattle.plant_check.proofs.notes.goes_by_one.Given as goal

abbrev pub invariant-loop-k : goal.invariant-loop-k
invariant-loop-k l = list_all (goes_by_one_at l.dates) (range_with_len 0 l.k) ≡ true

use Rattle.std.proofs.Common.{◌≡◌, false, take}
use Rattle.std.specs.Prelude.{codes}
use Rattle.std.specs.List.{list_any}
use Rattle.toml.specs.View.{view}
use Rattle.plant_keys.specs.Readers.{has}
use Rattle.plant_keys.proofs.keys.any_has_column.Given as goal

abbrev pub invariant-loop-machine : goal.invariant-loop-machine
invariant-loop-machine l = list_any (λ m. has (codes "column") (view m)) (take l.machine-index l.machines) ≡ false

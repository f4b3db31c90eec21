use Rattle.std.proofs.Common.{◌≡◌, true, take}
use Rattle.std.specs.List.{list_all}
use Rattle.toml.specs.View.{view}
use Rattle.plant_keys.specs.Code.{is_element}
use Rattle.plant_keys.proofs.values.are_elements.Given as goal

abbrev pub invariant-loop-value : goal.invariant-loop-value
invariant-loop-value l = list_all (λ v. is_element l.element (view v)) (take l.value-index l.values) ≡ true

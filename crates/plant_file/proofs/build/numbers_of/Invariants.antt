use Rattle.std.proofs.Common.{◌≡◌, map, take}
use Rattle.toml.specs.View.{view}
use Rattle.plant_keys.specs.Readers.{number_of}
use Rattle.plant_file.proofs.build.numbers_of.Given as goal

abbrev pub invariant-loop-value : goal.invariant-loop-value
invariant-loop-value l = l.numbers.items ≡ map (λ x. number_of 0 l.most 0 (view x)) (take l.value-index l.values)

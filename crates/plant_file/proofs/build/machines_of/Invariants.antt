use Rattle.std.proofs.Common.{◌≡◌, map, take}
use Rattle.toml.specs.View.{view}
use Rattle.plant_file.specs.Reading.{machine_of}
use Rattle.plant_file.proofs.build.machines_of.Given as goal

abbrev pub invariant-loop-machine : goal.invariant-loop-machine
invariant-loop-machine l = l.drafts.items ≡ map (λ x. machine_of (view x)) (take l.machine-index l.machines)

use Rattle.std.proofs.Common.{◌≡◌, ◌++◌, take}
use Rattle.std.specs.Prelude.{codes}
use Rattle.std.specs.List.{flat_map}
use Rattle.command_line.specs.Lines.{after_space}
use Rattle.live_plant.proofs.refusals.dead.dead_line.Given as goal

abbrev pub invariant-loop-label : goal.invariant-loop-label
invariant-loop-label l = l.text.items ≡ codes "dead:" ++ flat_map after_space (take l.label-index l.labels)

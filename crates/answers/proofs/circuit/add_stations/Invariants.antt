use Rattle.std.proofs.Common.{◌≡◌, ◌++◌, take}
use Rattle.std.specs.List.{flat_map}
use Rattle.answers.specs.CycleText.{spaced_label}
use Rattle.answers.proofs.circuit.add_stations.Given as goal

abbrev pub invariant-loop-t : goal.invariant-loop-t
invariant-loop-t l = l.text.items ≡ l.initial.text.items ++ flat_map (spaced_label l.graph) (take l.t-index l.list)

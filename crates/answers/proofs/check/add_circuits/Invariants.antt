use Rattle.std.proofs.Common.{◌≡◌, ◌++◌, take}
use Rattle.std.specs.List.{flat_map}
use Rattle.answers.specs.CheckText.{circuit_line}
use Rattle.answers.proofs.check.add_circuits.Given as goal

abbrev pub invariant-loop-circuit : goal.invariant-loop-circuit
invariant-loop-circuit l = l.text.items ≡ l.initial.text.items ++ flat_map (circuit_line l.plant) (take l.circuit-index l.circuits)

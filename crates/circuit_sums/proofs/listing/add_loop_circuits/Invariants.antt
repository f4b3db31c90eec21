use Rattle.std.proofs.Common.{◌≡◌, ◌++◌, map}
use Rattle.std.specs.List.{range_with_len}
use Rattle.circuit_sums.specs.Circuits.{loop_circuit}
use Rattle.circuit_sums.proofs.listing.add_loop_circuits.Given as goal

abbrev pub invariant-loop-number : goal.invariant-loop-number
invariant-loop-number l = l.list.items ≡ l.initial.list.items ++ map (loop_circuit l.layout l.first_arc) (range_with_len 0 l.number)

use Rattle.std.proofs.Common.{◌≡◌, map}
use Rattle.std.specs.List.{range_with_len}
use Rattle.plant_model.specs.ArcNumbers.{kanban_arc}
use Rattle.circuit_sums.specs.Circuits.{stage_circuit}
use Rattle.circuit_sums.proofs.listing.kanban_circuits.Given as goal

abbrev pub invariant-loop-stage : goal.invariant-loop-stage
invariant-loop-stage l = l.list.items ≡ map (stage_circuit l.layout (kanban_arc l.layout)) (range_with_len 0 l.stage)

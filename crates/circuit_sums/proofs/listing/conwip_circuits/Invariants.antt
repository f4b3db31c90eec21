use Rattle.std.proofs.Common.{◌≡◌, map}
use Rattle.std.specs.List.{range_with_len, filter}
use Rattle.plant_model.specs.Line.{is_first}
use Rattle.plant_model.specs.ArcNumbers.{conwip_arc}
use Rattle.circuit_sums.specs.Circuits.{line_circuit}
use Rattle.circuit_sums.proofs.listing.conwip_circuits.Given as goal

abbrev pub invariant-loop-stage : goal.invariant-loop-stage
invariant-loop-stage l =
    (l.card_arc ≡ conwip_arc l.layout l.stage)
    × (l.list.items ≡ map (line_circuit l.layout l.cards) (filter (is_first l.layout) (range_with_len 0 l.stage)))

use Rattle.std.proofs.Common.{◌≡◌, map}
use Rattle.std.specs.List.{filter, range_with_len}
use Rattle.plant_model.specs.Line.{is_first}
use Rattle.plant_model.specs.Graph.{arcs_of, line_card_row}
use Rattle.policies.proofs.conwip.arcs.Given as goal

abbrev pub invariant-loop-stage : goal.invariant-loop-stage
invariant-loop-stage l =
    l.arcs.items ≡ arcs_of (map (line_card_row l.plant) (filter (is_first l.plant) (range_with_len 0 l.stage)))

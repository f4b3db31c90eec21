use Rattle.std.proofs.Common.{◌≡◌}
use Rattle.std.specs.List.{flat_map, range_with_len}
use Rattle.plant_model.specs.Graph.{arcs_of}
use Rattle.policies.proofs.ExtendedRows.{stage_rows}
use Rattle.policies.proofs.extended.arcs.Given as goal

abbrev pub invariant-loop-number : goal.invariant-loop-number
invariant-loop-number l = l.arcs.items ≡ arcs_of (flat_map (stage_rows l.plant) (range_with_len 0 l.number))

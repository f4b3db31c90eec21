use Rattle.std.proofs.Common.{◌≡◌, map}
use Rattle.std.specs.List.{range_with_len}
use Rattle.plant_model.specs.Graph.{arcs_of, demand_row}
use Rattle.policies.proofs.base_stock.arcs.Given as goal

abbrev pub invariant-loop-stage : goal.invariant-loop-stage
invariant-loop-stage l = l.arcs.items ≡ arcs_of (map (demand_row l.plant) (range_with_len 0 l.stage))

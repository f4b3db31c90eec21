use Rattle.std.proofs.Common.{◌≡◌, map}
use Rattle.std.specs.List.{range_with_len}
use Rattle.plant_model.specs.Graph.{arcs_of, card_row}
use Rattle.policies.proofs.kanban.arcs.Given as goal

abbrev pub invariant-loop-stage : goal.invariant-loop-stage
invariant-loop-stage l = l.arcs.items ≡ arcs_of (map (card_row l.plant 0) (range_with_len 0 l.stage))

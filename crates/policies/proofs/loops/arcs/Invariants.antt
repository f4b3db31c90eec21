use Rattle.std.proofs.Common.{◌≡◌, map, take}
use Rattle.plant_model.specs.Graph.{arcs_of, loop_row}
use Rattle.policies.proofs.loops.arcs.Given as goal

abbrev pub invariant-loop-card_loop : goal.invariant-loop-card_loop
invariant-loop-card_loop l = l.arcs.items ≡ arcs_of (map (loop_row l.plant) (take l.card_loop-index l.plant.loops))

use Rattle.std.proofs.Common.{◌≡◌, ◌∷◌, [], take}
use Rattle.std.specs.List.{flat_map}
use Rattle.line_graph.proofs.delays.demand_and_card_times.Given as goal

abbrev pub invariant-loop-stage : goal.invariant-loop-stage
invariant-loop-stage l = l.times.items ≡ flat_map (λ s. 0 ∷ s.card_time ∷ []) (take l.stage-index l.stages)

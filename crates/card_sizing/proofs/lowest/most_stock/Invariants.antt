use Rattle.std.proofs.Common.{◌≡◌}
use Rattle.std.specs.List.{range_with_len}
use Rattle.event_graph.specs.GreatestValue.{greatest}
use Rattle.plant_model.specs.Line.{stage_at}
use Rattle.card_sizing.proofs.lowest.most_stock.Given as goal

abbrev pub invariant-loop-stage : goal.invariant-loop-stage
invariant-loop-stage l = l.most ≡ greatest (λ i. (stage_at l.plant i).stock) (range_with_len 0 l.stage-index)

use Rattle.std.proofs.Common.{◌≡◌}
use Rattle.std.specs.List.{filter, range_with_len}
use Rattle.event_graph.specs.GreatestValue.{greatest}
use Rattle.plant_model.specs.Line.{is_first, path_stock}
use Rattle.card_sizing.proofs.lowest.most_path_stock.Given as goal

abbrev pub invariant-loop-stage : goal.invariant-loop-stage
invariant-loop-stage l =
    l.most ≡ greatest (path_stock l.layout) (filter (is_first l.layout) (range_with_len 0 l.stage))

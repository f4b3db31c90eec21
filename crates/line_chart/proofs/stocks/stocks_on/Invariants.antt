use Rattle.std.proofs.Common.{◌≡◌, map}
use Rattle.std.specs.List.{range_with_len}
use Rattle.plant_model.specs.Line.{path_stock}
use Rattle.line_chart.proofs.stocks.stocks_on.Given as goal

-- the stocks of the stages before
abbrev pub invariant-loop-stage : goal.invariant-loop-stage
invariant-loop-stage l = l.stocks.items ≡ map (path_stock l.plant) (range_with_len 0 l.stage)

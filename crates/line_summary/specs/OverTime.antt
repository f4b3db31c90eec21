-- Sums of counts over time. The mean of a count is its sum over time, divided by the last date.
use Rattle.std.specs.Prelude.{ℕ, ◌+◌, sum_by}
use Rattle.std.specs.List.{range_with_len}
use Rattle.plant_model.specs.declared.plant.Plant.{Plant}
use Rattle.plant_model.specs.Line.{stage_numbers}
use Rattle.plant_model.specs.Graph.{graph}
use Rattle.event_graph.specs.Table.{Table}
use Rattle.event_graph.specs.GreatestValue.{greatest}
use Rattle.line_stats.specs.Counts.{in_process, in_move, in_stock, backlog, last_date}

-- the sum of a count at every date from 0 on and before the end
unfoldable pub sum_until : ℕ → (ℕ → ℕ) → ℕ
sum_until end count = sum_by count (range_with_len 0 end)

-- the same up to the last date of a plant's table
abbrev pub sum_over_time : Plant → Table → (ℕ → ℕ) → ℕ
sum_over_time p x count = sum_until (last_date (graph p) x) count

-- the parts of stage i in process, on their travel and in stock, and the demands that are not delivered
abbrev pub process_sum : Plant → Table → ℕ → ℕ
process_sum p x i = sum_over_time p x (in_process p x i)

abbrev pub move_sum : Plant → Table → ℕ → ℕ
move_sum p x i = sum_over_time p x (in_move p x i)

abbrev pub stock_sum : Plant → Table → ℕ → ℕ
stock_sum p x i = sum_over_time p x (in_stock p x i)

abbrev pub backlog_sum : Plant → Table → ℕ
backlog_sum p x = sum_over_time p x (backlog p x)

-- all parts of stage i
abbrev pub stage_sum : Plant → Table → ℕ → ℕ
stage_sum p x i = process_sum p x i + move_sum p x i + stock_sum p x i

-- the parts of all stages
unfoldable pub parts_sum : Plant → Table → ℕ
parts_sum p x = sum_by (stage_sum p x) (stage_numbers p)

-- the greatest backlog at any date
unfoldable pub most_backlog : Plant → Table → ℕ
most_backlog p x = greatest (backlog p x) (range_with_len 0 (last_date (graph p) x + 1))

use Rattle.std.proofs.Common.{◌≡◌, ◌≤◌, ◌*◌, length, take}
use Rattle.std.specs.List.{flat_map}
use Rattle.plant_model.specs.Graph.{graph}
use Rattle.event_graph.specs.Table.{date_in}
use Rattle.line_chart.specs.Bars.{machine_bars}
use Rattle.line_chart.proofs.bars.count_bars.Given as goal

-- the bars of the machines before
abbrev pub invariant-loop-number : goal.invariant-loop-number
invariant-loop-number l =
    (l.count ≡ length (flat_map (machine_bars (graph l.run.plant) (date_in l.run.table.rows) l.run.window) (take l.number l.run.machines.items)))
    × (l.count ≤ 20_000 * l.number)

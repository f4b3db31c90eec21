use Rattle.std.proofs.Common.{◌≡◌, ◌*◌, ◌≤◌}
use Rattle.std.specs.List.{flat_map, range_with_len}
use Rattle.plant_model.specs.Line.{release}
use Rattle.line_chart.specs.Bars.{lanes_of_stages, stage_machines}
use Rattle.line_chart.proofs.machines.all_lanes.Given as goal

-- the lanes of the stages before
abbrev pub invariant-loop-stage : goal.invariant-loop-stage
invariant-loop-stage l =
    (l.list.items ≡ flat_map (stage_machines l.plant) (range_with_len 0 l.stage))
    × (l.next ≡ lanes_of_stages l.plant l.stage)
    × (l.next ≤ 10_000 * release l.plant l.stage)

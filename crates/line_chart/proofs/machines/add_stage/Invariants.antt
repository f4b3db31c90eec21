use Rattle.std.proofs.Common.{◌≡◌, ◌+◌, ◌*◌, ◌≤◌, ◌++◌, map}
use Rattle.std.specs.List.{range_with_len}
use Rattle.line_chart.specs.Bars.{lanes_before, machine_lanes}
use Rattle.line_chart.proofs.machines.add_stage.Given as goal

-- the lanes of the machines before
abbrev pub invariant-loop-before : goal.invariant-loop-before
invariant-loop-before l =
    (l.list.items ≡ l.initial.list.items ++ map (machine_lanes l.plant l.stage) (range_with_len 0 l.before))
    × (l.next ≡ l.first + lanes_before l.plant l.stage l.before)
    × (l.next ≤ 10_000 * (l.release + l.before))

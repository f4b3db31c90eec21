use Rattle.std.proofs.Common.{◌≡◌, ◌-◌, ◌≤◌, ◌^◌}
use Rattle.line_chart.specs.Axis.{step_from, axis_step}
use Rattle.line_chart.proofs.axis.axis_step.Given as goal

-- none of the steps before fits
abbrev pub invariant-loop-power : goal.invariant-loop-power
invariant-loop-power l =
    (step_from (16 - l._power) l.ten l.span ≡ axis_step l.span) × (1 ≤ l.ten) × (l.ten ≤ 10 ^ l._power)

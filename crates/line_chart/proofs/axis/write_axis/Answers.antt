use Rattle.std.proofs.Common.{◌≡◌, ◌+◌, ◌-◌, ◌/◌, arith}
use Rattle.outside_io.proofs.OutgoingLemmas.{pushed_none}
use Rattle.line_chart.specs.Axis.{multiples}
use Rattle.line_chart.specs.ChartText.{axis_text}
use Rattle.line_chart.proofs.AxisFacts.{from-multiple, to-multiple, pushed_multiple}
use Rattle.line_chart.proofs.axis.write_axis.Goals as goal

pub loop-number-init : goal.loop-number-init
loop-number-init g c =
    let step = c.axis_step-step.result in
    let first = (c.args.window.from + step - 1) / step in
    let e : first - first ≡ 0 = omega arith in
    (rw e (pushed_none _), omega arith, omega arith)

pub overflow_mul-step : goal.overflow_mul-step
overflow_mul-step g c = omega (arith, to-multiple c.axis_step-step.result c.args.window.to c.loop-number.number (omega arith), c.requires.early)

pub write_line-requires-clause-from : goal.write_line-requires-clause-from
write_line-requires-clause-from g c = from-multiple c.axis_step-step.result c.args.window.from c.loop-number.number c.axis_step-step.ensures.some c.loop-number.invariant.1

pub write_line-requires-clause-to : goal.write_line-requires-clause-to
write_line-requires-clause-to g c = to-multiple c.axis_step-step.result c.args.window.to c.loop-number.number (omega arith)

pub loop-number-preserved : goal.loop-number-preserved
loop-number-preserved g c =
    let step = c.axis_step-step.result in
    let first = (c.args.window.from + step - 1) / step in
    let k = c.loop-number.number in
    let low = c.loop-number.invariant.1 in
    let at : first + (k - first) ≡ k = omega arith in
    let e : k + 1 - first ≡ k - first + 1 = omega arith in
    (rw e (pushed_multiple c.args.window c.args.end step first (k - first) k at c.loop-number.invariant.0 c.write_line.ensures), omega arith, omega arith)

pub returns : goal.returns
unfolding axis_text multiples
returns g c =
    let step = c.axis_step-step.result in
    let first = (c.args.window.from + step - 1) / step in
    let low = c.loop-number.invariant.1 in
    let high = c.loop-number.invariant.2 in
    let all : c.loop-number.number - first ≡ c.args.window.to / step + 1 - first = omega arith in
    rw c.axis_step-step.ensures.step at (rw all at c.loop-number.invariant.0)

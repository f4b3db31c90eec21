use Rattle.std.proofs.Common.{◌≡◌, ◌+◌, ◌-◌, ◌*◌, suc, sym, ap, ◌∙◌, arith}
use Rattle.line_chart.specs.Axis.{step_from}
use Rattle.line_chart.proofs.AxisSteps.{step-one, step-two, step-five, step-next, small-ten, next-ten}
use Rattle.line_chart.proofs.axis.axis_step.Goals as goal

pub returns-then-span-ten-le10-clause-step : goal.returns-then-span-ten-le10-clause-step
returns-then-span-ten-le10-clause-step c =
    let p = c.loop-power._power in
    let e : suc (15 - p) ≡ 16 - p = omega arith in
    sym (step-one (15 - p) c.loop-power.ten c.args.span c.if-span-ten-le10.true) ∙ ap (λ k. step_from k c.loop-power.ten c.args.span) e ∙ c.loop-power.invariant.0

pub returns-then-span-ten-le10-clause-small : goal.returns-then-span-ten-le10-clause-small
returns-then-span-ten-le10-clause-small c =
    omega (arith, small-ten c.loop-power._power c.loop-power.ten c.loop-power-test.true c.loop-power.invariant.2)

pub returns-then-span-ten-le10-2-clause-step : goal.returns-then-span-ten-le10-2-clause-step
returns-then-span-ten-le10-2-clause-step c =
    let p = c.loop-power._power in
    let e : suc (15 - p) ≡ 16 - p = omega arith in
    sym (step-two (15 - p) c.loop-power.ten c.args.span c.if-span-ten-le10.false c.if-span-ten-le10-2.true) ∙ ap (λ k. step_from k c.loop-power.ten c.args.span) e ∙ c.loop-power.invariant.0

pub returns-then-span-ten-le10-2-clause-small : goal.returns-then-span-ten-le10-2-clause-small
returns-then-span-ten-le10-2-clause-small c =
    omega (arith, small-ten c.loop-power._power c.loop-power.ten c.loop-power-test.true c.loop-power.invariant.2)

pub returns-then-span-ten-le10-3-clause-step : goal.returns-then-span-ten-le10-3-clause-step
returns-then-span-ten-le10-3-clause-step c =
    let p = c.loop-power._power in
    let e : suc (15 - p) ≡ 16 - p = omega arith in
    sym (step-five (15 - p) c.loop-power.ten c.args.span c.if-span-ten-le10.false c.if-span-ten-le10-2.false c.if-span-ten-le10-3.true) ∙ ap (λ k. step_from k c.loop-power.ten c.args.span) e ∙ c.loop-power.invariant.0

pub returns-then-span-ten-le10-3-clause-small : goal.returns-then-span-ten-le10-3-clause-small
returns-then-span-ten-le10-3-clause-small c =
    omega (arith, small-ten c.loop-power._power c.loop-power.ten c.loop-power-test.true c.loop-power.invariant.2)

pub loop-power-preserved : goal.loop-power-preserved
loop-power-preserved c =
    let p = c.loop-power._power in
    let ten = c.loop-power.ten in
    let e : suc (15 - p) ≡ 16 - p = omega arith in
    let e_2 : 16 - (p + 1) ≡ 15 - p = omega arith in (
      ap (λ k. step_from k (10 * ten) c.args.span) e_2
          ∙ sym (step-next (15 - p) ten c.args.span c.if-span-ten-le10.false c.if-span-ten-le10-2.false c.if-span-ten-le10-3.false)
          ∙ ap (λ k. step_from k ten c.args.span) e
          ∙ c.loop-power.invariant.0,
      omega (arith, c.loop-power.invariant.1),
      next-ten p ten c.loop-power.invariant.2,
    )

pub returns-clause-step : goal.returns-clause-step
unfolding step_from
returns-clause-step c =
    let p = c.loop-power._power in
    let e : 0 ≡ 16 - p = omega arith in
    ap (λ k. step_from k c.loop-power.ten c.args.span) e ∙ c.loop-power.invariant.0

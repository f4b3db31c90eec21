use Rattle.std.proofs.Common.{arith}
use Rattle.event_graph.proofs.Sizes.{delay-small}
use Rattle.latest_dates.proofs.arc_bounds.time_added.Goals as goal

pub overflow_add-result : goal.overflow_add-result
overflow_add-result c =
    omega (arith, c.delay.ensures.delay, delay-small c.args.graph.now c.args.a c.delay.ensures.limits, c.work.ensures.short)

pub returns : goal.returns
returns c = omega (arith, c.delay.ensures.delay, c.work.ensures.work)

use Rattle.std.proofs.Common.{arith}
use Rattle.event_graph.proofs.Sizes.{delay-small}
use Rattle.cycle_time.proofs.circuit.time_on.Goals as goal

pub overflow_add-result : goal.overflow_add-result
overflow_add-result c =
    omega (arith, c.work.ensures.short, c.delay-delay.ensures.delay, delay-small c.args.graph.now c.args.a c.delay-delay.ensures.limits)

pub returns-clause-small : goal.returns-clause-small
returns-clause-small c =
    omega (arith, c.work.ensures.short, c.delay-delay.ensures.delay, delay-small c.args.graph.now c.args.a c.delay-delay.ensures.limits)

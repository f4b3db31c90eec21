use Rattle.std.proofs.Common.{arith}
use Rattle.event_graph.proofs.Sizes.{delay-small}
use Rattle.line_core.proofs.parts.token_date.Goals as goal

pub overflow_add-result : goal.overflow_add-result
overflow_add-result c =
    omega (arith, c.date_or_none.ensures.early, c.delay.ensures.delay, delay-small c.args.graph.now c.args.a c.delay.ensures.limits)

pub returns-clause-early : goal.returns-clause-early
returns-clause-early c =
    omega (arith, c.date_or_none.ensures.early, c.delay.ensures.delay, delay-small c.args.graph.now c.args.a c.delay.ensures.limits)

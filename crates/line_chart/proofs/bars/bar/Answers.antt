use Rattle.std.proofs.Common.{arith}
use Rattle.event_graph.proofs.Sizes.{time-small}
use Rattle.line_chart.proofs.bars.bar.Goals as goal

pub returns-clause-short : goal.returns-clause-short
returns-clause-short c =
    omega (arith, c.time.ensures.time, time-small c.args.graph.now c.args.machine.station c.args.job c.time.ensures.limits)

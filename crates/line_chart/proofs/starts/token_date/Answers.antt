use Rattle.std.proofs.Common.{arith}
use Rattle.line_chart.proofs.starts.token_date.Goals as goal

pub date-requires-clause-station : goal.date-requires-clause-station
date-requires-clause-station c = rw c.requires.of_graph c.arc-arc.ensures.starts

pub date-requires-clause-job : goal.date-requires-clause-job
date-requires-clause-job c = rw c.requires.of_graph (omega (arith, c.requires.job))

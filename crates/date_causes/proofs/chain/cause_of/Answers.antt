use Rattle.std.proofs.Common.{arith}
use Rattle.date_causes.proofs.chain.cause_of.Goals as goal

pub date-date-requires-clause-station : goal.date-date-requires-clause-station
date-date-requires-clause-station c = rw c.requires.of_graph c.requires.station

pub date-date-requires-clause-job : goal.date-date-requires-clause-job
date-date-requires-clause-job c = rw c.requires.of_graph c.requires.job

pub date-before-requires-clause-station : goal.date-before-requires-clause-station
date-before-requires-clause-station c = rw c.requires.of_graph c.arc-arc.ensures.starts

pub date-before-requires-clause-job : goal.date-before-requires-clause-job
date-before-requires-clause-job c = rw c.requires.of_graph (omega (arith, c.requires.job))

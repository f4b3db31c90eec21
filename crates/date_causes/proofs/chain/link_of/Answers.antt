use Rattle.date_causes.proofs.chain.link_of.Goals as goal

pub date-date-requires-clause-station : goal.date-date-requires-clause-station
date-date-requires-clause-station c = rw c.requires.of_graph c.requires.station

pub date-date-requires-clause-job : goal.date-date-requires-clause-job
date-date-requires-clause-job c = rw c.requires.of_graph c.requires.job

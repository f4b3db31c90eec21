use Rattle.line_workers.proofs.AfterSweeps.{after_more}
use Rattle.line_workers.proofs.laws.sweeps_follow_sweeps.Goals as goal

pub returns : goal.returns
returns c = after_more

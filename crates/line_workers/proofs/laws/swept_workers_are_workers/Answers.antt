use Rattle.line_workers.proofs.AfterSweeps.{workers_after}
use Rattle.line_workers.proofs.laws.swept_workers_are_workers.Goals as goal

pub returns : goal.returns
returns c = workers_after

use Rattle.line_workers.proofs.AfterSweeps.{logs_grow}
use Rattle.line_workers.proofs.laws.sweeps_let_logs_grow.Goals as goal

pub returns : goal.returns
returns c = logs_grow

use Rattle.std.proofs.Common.{subst}
use Rattle.line_worker.specs.Worker.{IsWorker}
use Rattle.line_worker.proofs.worker.Worker.turns.Goals as goal

pub returns-clause-worker : goal.returns-clause-worker
returns-clause-worker c = subst IsWorker c.self.view_is c.self.invariant

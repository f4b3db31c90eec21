use Rattle.std.proofs.Common.{subst}
use Rattle.line_worker.specs.Worker.{IsWorker}
use Rattle.line_worker.proofs.worker.Worker.alloc.Goals as goal

pub returns : goal.returns
returns c = subst IsWorker c.self.view_is c.self.invariant

use Rattle.std.proofs.Common.{◌^◌}
use Rattle.line_worker.specs.Work.{turns_made}
use Rattle.line_workers.proofs.AllWorkers.{CountedUpTo}
use Rattle.line_workers.proofs.workers.turns_of.Given as goal

abbrev pub invariant-loop-worker : goal.invariant-loop-worker
invariant-loop-worker l = CountedUpTo turns_made (2 ^ 50) l.worker-index l.workers l.turns

use Rattle.std.proofs.Common.{◌*◌}
use Rattle.line_base.specs.declared.limits.TheConstants.{MAX_STATIONS, MAX_DEMANDS}
use Rattle.line_worker.specs.Work.{dates_made}
use Rattle.line_workers.proofs.AllWorkers.{CountedUpTo}
use Rattle.line_workers.proofs.workers.dates_of.Given as goal

abbrev pub invariant-loop-worker : goal.invariant-loop-worker
invariant-loop-worker l = CountedUpTo dates_made (MAX_STATIONS * MAX_DEMANDS) l.worker-index l.workers l.dates

use Rattle.std.proofs.Common.{◌*◌, ◌∙◌}
use Rattle.line_base.specs.declared.limits.TheConstants.{MAX_STATIONS, MAX_DEMANDS}
use Rattle.line_worker.specs.Work.{dates_made}
use Rattle.line_workers.proofs.AllWorkers.{counted_more, counted_all, dates-total}
use Rattle.line_workers.proofs.workers.dates_of.Goals as goal

pub loop-worker-preserved : goal.loop-worker-preserved
loop-worker-preserved c =
    counted_more dates_made (MAX_STATIONS * MAX_DEMANDS) c.loop-worker.worker-index c.args.workers.now c.worker-item.result c.loop-worker.dates c.dates-dates.result c.loop-worker-test.true c.worker-item.is c.dates-dates.ensures.dates c.dates-dates.ensures.few c.loop-worker.invariant

pub returns : goal.returns
returns c =
    counted_all dates_made (MAX_STATIONS * MAX_DEMANDS) c.loop-worker.worker-index c.args.workers.now c.loop-worker.dates c.loop-worker-test.false c.loop-worker.invariant ∙ dates-total c.args.workers.now c.requires.workers

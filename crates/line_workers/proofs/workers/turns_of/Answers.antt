use Rattle.std.proofs.Common.{◌^◌, ◌∙◌}
use Rattle.line_worker.specs.Work.{turns_made}
use Rattle.line_workers.proofs.AllWorkers.{counted_more, counted_all, turns-total}
use Rattle.line_workers.proofs.workers.turns_of.Goals as goal

pub loop-worker-preserved : goal.loop-worker-preserved
loop-worker-preserved c =
    counted_more turns_made (2 ^ 50) c.loop-worker.worker-index c.args.workers.now c.worker-item.result c.loop-worker.turns c.steps-turns.result c.loop-worker-test.true c.worker-item.is c.steps-turns.ensures.steps c.steps-turns.ensures.few c.loop-worker.invariant

pub returns : goal.returns
returns c =
    counted_all turns_made (2 ^ 50) c.loop-worker.worker-index c.args.workers.now c.loop-worker.turns c.loop-worker-test.false c.loop-worker.invariant ∙ turns-total c.args.workers.now c.requires.workers

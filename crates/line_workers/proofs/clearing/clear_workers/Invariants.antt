use Rattle.std.proofs.Common.{◌≡◌, ◌++◌, map, take, drop}
use Rattle.line_worker.specs.Cleared.{cleared_worker}
use Rattle.line_workers.proofs.clearing.clear_workers.Given as goal

abbrev pub invariant-loop-worker : goal.invariant-loop-worker
invariant-loop-worker l =
    l.workers ≡ map cleared_worker (take l.worker-index l.initial.workers) ++ drop l.worker-index l.initial.workers

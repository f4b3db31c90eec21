use Rattle.std.proofs.Common.{◌-◌, ◌^◌}
use Rattle.line_workers.specs.Gather.{IsWorkerAfter}
use Rattle.line_runs.specs.Sweeping.{IsMostTurns}
use Rattle.line_runs.proofs.scheduler.sweeping.sweep_on.Given as goal

abbrev pub invariant-loop-worker : goal.invariant-loop-worker
invariant-loop-worker g l = record {
  after : IsWorkerAfter l.fn.worker l.worker;
  counted : IsMostTurns l.worker.team l.turns;
}

-- how many turns its stations may still make
abbrev pub decreases-loop-worker : goal.decreases-loop-worker
decreases-loop-worker g l = 2 ^ 39 - l.turns

use Rattle.std.proofs.Common.{◌≤◌, length, vec_capacity}
use Rattle.line_setup.specs.NewWorkers.{AreMakingWorkers}
use Rattle.line_setup.proofs.workers.workers_of.Given as goal

abbrev pub invariant-loop-team : goal.invariant-loop-team
invariant-loop-team l = record {
  making : AreMakingWorkers l.start.live.now l.start.state.now.state l.start.worker_count l.start.room l.initial.team-iterator.rest.items l.team-iterator.rest.items l.workers.items (length l.workers.items);
  few : length l.workers.items ≤ l.start.worker_count;
  room : l.start.worker_count ≤ vec_capacity l.workers;
}

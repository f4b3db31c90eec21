use Rattle.std.proofs.Common.{◌≡◌, ℕ, ◌<◌, ◌≤◌}
use Rattle.line_worker.specs.Workers.{worker_at, HasMadeRound}
use Rattle.line_workers.proofs.work.go_on_all.Given as goal

abbrev pub invariant-loop-worker : goal.invariant-loop-worker
invariant-loop-worker g l = record {
  went : (v : ℕ) → v < l.worker-index → HasMadeRound (worker_at l.initial.workers v) (worker_at l.workers v);
  stay : (v : ℕ) → l.worker-index ≤ v → worker_at l.workers v ≡ worker_at l.initial.workers v;
}

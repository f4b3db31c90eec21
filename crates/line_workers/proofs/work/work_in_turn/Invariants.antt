use Rattle.std.proofs.Common.{ℕ, ◌<◌, length}
use Rattle.line_worker.specs.Workers.{worker_at, IsAtWork}
use Rattle.line_workers.proofs.work.work_in_turn.Given as goal

abbrev pub invariant-loop-sweep : goal.invariant-loop-sweep
invariant-loop-sweep g l = (w : ℕ) → w < length l.initial.workers → IsAtWork (worker_at l.initial.workers w) (worker_at l.workers w) l._sweep

use Rattle.std.proofs.Common.{◌≡◌, ◌+◌, ◌≤◌, drop, length}
use Rattle.line_worker.specs.Logs.{log_of}
use Rattle.line_workers.specs.Close.{AreGiven}
use Rattle.line_workers.proofs.closing.logs_of.Given as goal

abbrev pub invariant-loop-worker : goal.invariant-loop-worker
invariant-loop-worker l = record {
  left : l.worker-iterator.rest.items ≡ drop (length l.yielded + 1) l.fn.workers.items;
  few : length l.yielded + 1 ≤ length l.fn.workers.items;
  given : AreGiven log_of l.fn.workers.items (length l.yielded + 1) l.logs;
}

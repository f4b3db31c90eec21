use Rattle.line_worker.specs.Workers.{IsAtWork}
use Rattle.line_worker.proofs.worker.Worker.work.Given as goal

abbrev pub invariant-loop-sweep : goal.invariant-loop-sweep
invariant-loop-sweep g l = IsAtWork l.initial.self l.self l._sweep

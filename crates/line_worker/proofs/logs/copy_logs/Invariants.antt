use Rattle.std.proofs.Common.{◌≡◌, ◌++◌, map, take}
use Rattle.line_worker.specs.Logs.{copy_with}
use Rattle.line_worker.proofs.logs.copy_logs.Given as goal

abbrev pub invariant-loop-log : goal.invariant-loop-log
invariant-loop-log l =
    l.logs ≡ record l.initial.logs { logs = l.initial.logs.logs ++ map (copy_with l.room) (take l.log-index l.copied.items) }

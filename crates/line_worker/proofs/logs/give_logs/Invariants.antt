use Rattle.std.proofs.Common.{◌≡◌, ◌++◌}
use Rattle.std.specs.Vec.Iter.{into_iter_items}
use Rattle.line_worker.proofs.logs.give_logs.Given as goal

abbrev pub invariant-loop-log : goal.invariant-loop-log
invariant-loop-log l = record {
  given : l.logs ≡ record l.initial.logs { logs = l.initial.logs.logs ++ l.yielded };
  left : l.yielded ++ into_iter_items l.log-iterator ≡ l.fn.given.items;
}

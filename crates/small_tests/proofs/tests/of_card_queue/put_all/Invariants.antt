use Rattle.std.proofs.Common.{◌≡◌, ◌+◌, length}
use Rattle.small_tests.proofs.tests.of_card_queue.put_all.Given as goal

abbrev pub invariant-loop-n : goal.invariant-loop-n
invariant-loop-n l = record {
  room : l.put.room ≡ l.initial.put.room;
  added : length l.put.added ≡ length l.initial.put.added + l.n;
}

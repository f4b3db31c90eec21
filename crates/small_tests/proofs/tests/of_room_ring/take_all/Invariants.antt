use Rattle.std.proofs.Common.{◌≤◌}
use Rattle.small_tests.proofs.tests.of_room_ring.take_all.Given as goal

abbrev pub invariant-loop : goal.invariant-loop
invariant-loop l = l.taken ≤ 10000

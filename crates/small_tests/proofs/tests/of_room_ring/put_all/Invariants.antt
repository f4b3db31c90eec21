use Rattle.std.proofs.Common.{◌≡◌, ◌≤◌, length}
use Rattle.small_tests.proofs.tests.of_room_ring.put_all.Given as goal

abbrev pub invariant-loop : goal.invariant-loop
invariant-loop l = (length l.put.added ≡ l.given) × (l.given ≤ 10000)

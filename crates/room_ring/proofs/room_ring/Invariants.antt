use Rattle.std.proofs.Common.{◌≡◌, [], take}
use Rattle.room_ring.proofs.room_ring.Given as goal

abbrev pub invariant-loop-token : goal.invariant-loop-token
invariant-loop-token l = record {
  initial : l.put.initial ≡ [];
  added : l.put.added ≡ take l.token-index l.initial';
  head : l.put.head ≡ 0;
  room : l.put.ring.room ≡ l.room;
  ring : l.take.ring ≡ l.put.ring;
  taken : l.take.taken ≡ [];
}

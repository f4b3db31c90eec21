use Rattle.std.proofs.Common.{rules, arith}
use Rattle.room_ring.proofs.Moves.{may_load_head}
use Rattle.room_ring.proofs.put.RoomPut.look.Goals as goal

pub load-self-inside-requires : goal.load-self-inside-requires
load-self-inside-requires c = (search rules, grind arith, may_load_head _ _ _ _ c.self.invariant.putter.role)

use Rattle.std.proofs.Common.{ℕ, ◌-◌, ap, ◌∙◌}
use Rattle.room_ring.specs.Put.{room_space}
use Rattle.room_ring.proofs.Ends.{space_is}
use Rattle.room_ring.proofs.put.RoomPut.space.Goals as goal

pub returns-clause-space : goal.returns-clause-space
returns-clause-space c =
    let p = c.self.inside in
    let i = c.self.invariant in
    ap (λ (n : ℕ). p.end.room - (p.end.count - n)) i.seated.seen
    ∙ space_is p.initial p.end.room p.end.count p.end.seat.me.0.seen p.end.seat.me.0.list i.seated.count i.taken i.within
    ∙ ap room_space c.self.view_is

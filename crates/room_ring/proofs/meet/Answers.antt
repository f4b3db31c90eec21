use Rattle.std.proofs.Common.{◌<◌, inl, inr, refl, rules, arith, ap, sym, ◌∙◌}
use Rattle.room_ring.specs.Put.{RoomPutEnd}
use Rattle.room_ring.specs.Ring.{Ring}
use Rattle.room_ring.specs.Take.{RoomTakeEnd}
use Rattle.room_ring.proofs.Moves.{may_load_head}
use Rattle.room_ring.proofs.meet.Goals as goal

pub load-put-inside-requires : goal.load-put-inside-requires
load-put-inside-requires c = (search rules, grind arith, may_load_head _ _ _ _ (ap (λ m. m.0.role) c.tell.ensures.to ∙ c.put.invariant.putter.role))

pub tell-requires-clause-from : goal.tell-requires-clause-from
tell-requires-clause-from c =
    ap (λ (t : RoomTakeEnd). t.ring.table) c.take.view_is ∙ ap (λ (r : Ring). r.table) c.requires ∙ sym (ap (λ (p : RoomPutEnd). p.ring.table) c.put.view_is)
    ∙ c.put.invariant.seated.table ∙ sym (ap (λ w. w.shared.table_id) c.deref.ensures)

pub tell-requires-clause-to : goal.tell-requires-clause-to
tell-requires-clause-to c = c.put.invariant.seated.table ∙ sym (ap (λ w. w.shared.table_id) c.deref.ensures)

pub tell-requires-clause-may_note : goal.tell-requires-clause-may_note
tell-requires-clause-may_note c =
    let t = c.take.invariant.taker in
    inr (record { role = t.role; free = t.free; room_is = refl })

pub tell-requires-clause-may_hear : goal.tell-requires-clause-may_hear
tell-requires-clause-may_hear c = inl c.put.invariant.putter.role

pub tell-requires-clause-some_words : goal.tell-requires-clause-some_words
tell-requires-clause-some_words c =
    omega (arith, ap (λ w. w.shared.table_id.words) c.deref.ensures ∙ c.put.invariant.seated.words)

pub returns-clause-known : goal.returns-clause-known
returns-clause-known c = c.tell_take.ensures.known

pub returns-clause-within : goal.returns-clause-within
returns-clause-within c = c.tell_take.ensures.within

use Rattle.std.proofs.Common.{◌<◌, inl, inr, refl, rules, arith, ap, sym, ◌∙◌}
use Rattle.room_ring.specs.Put.{RoomPutEnd}
use Rattle.room_ring.specs.Ring.{Ring}
use Rattle.room_ring.specs.Take.{RoomTakeEnd}
use Rattle.room_ring.proofs.Moves.{may_load_tail}
use Rattle.room_ring.proofs.tell_take.Goals as goal

pub load-take-inside-requires : goal.load-take-inside-requires
load-take-inside-requires c = (search rules, grind arith, may_load_tail _ _ _ _ (ap (λ m. m.0.role) c.tell.ensures.to ∙ c.take.invariant.taker.role))

pub tell-requires-clause-from : goal.tell-requires-clause-from
tell-requires-clause-from c =
    ap (λ (p : RoomPutEnd). p.ring.table) c.put.view_is ∙ sym (ap (λ (r : Ring). r.table) c.requires) ∙ sym (ap (λ (t : RoomTakeEnd). t.ring.table) c.take.view_is)
    ∙ c.take.invariant.seated.table ∙ sym (ap (λ w. w.shared.table_id) c.deref.ensures)

pub tell-requires-clause-to : goal.tell-requires-clause-to
tell-requires-clause-to c = c.take.invariant.seated.table ∙ sym (ap (λ w. w.shared.table_id) c.deref.ensures)

pub tell-requires-clause-may_note : goal.tell-requires-clause-may_note
tell-requires-clause-may_note c = inl c.put.invariant.putter

pub tell-requires-clause-may_hear : goal.tell-requires-clause-may_hear
tell-requires-clause-may_hear c = inr c.take.invariant.taker.role

pub tell-requires-clause-some_words : goal.tell-requires-clause-some_words
tell-requires-clause-some_words c =
    omega (arith, ap (λ w. w.shared.table_id.words) c.deref.ensures ∙ c.take.invariant.seated.words)

use Rattle.std.proofs.Common.{◌≡◌, ◌<◌, rules, arith, subst, sym, ap, [], ◌∷◌, ◌++◌, length-append, ◌∙◌, length}
use Rattle.room_ring.specs.Take.{RoomTakeEnd, room_known}
use Rattle.room_ring.specs.View.{cell_loaded, head_stored}
use Rattle.room_ring.proofs.Moves.{may_load_cell, may_store_head}
use Rattle.room_ring.proofs.Ends.{known_within, same_cell, cell_within}
use Rattle.room_ring.proofs.take.RoomTake.take_known.Goals as goal

pub load-date-requires : goal.load-date-requires
load-date-requires c =
    let t = c.self.inside in
    let i = c.self.invariant in
    let key = ap (λ w. w.shared.key) c.deref.ensures ∙ i.seated.key in
    let words = ap (λ w. w.shared.table_id.words) c.deref.ensures ∙ i.seated.words in (
      search rules,
      cell_within _ _ _ _ c.cell-word.ensures i.seated.some_room words,
      may_load_cell _ _ _ _ _ i.taker.role i.taker.free (known_within t.end.seat.me.0.seen t.end.seat.me.0.list (subst (λ v. 0 < room_known v) (sym c.self.view_is) c.requires)) (same_cell _ _ _ _ _ c.cell-word.ensures key i.seated.count),
    )

pub store-requires : goal.store-requires
store-requires c =
    let i = c.self.invariant in
    let words = ap (λ w. w.shared.table_id.words) c.deref.ensures ∙ i.seated.words in
    let some_room = i.seated.some_room in
    let head = i.seated.count in
    let taken = ap (λ m. m.0) c.load-date.ensures.2 in
    let longer = ap (λ v. length v.list) taken ∙ length-append c.self.inside.end.seat.me.0.list (c.load-date.result ∷ []) in (
      search rules,
      omega arith,
      may_store_head _ _ _ _ _ (ap (λ v. v.role) taken ∙ i.taker.role) (ap (λ v. v.is_loaded) taken) (omega arith),
    )

pub returns : goal.returns
returns c =
    let end = c.self.inside.end in
    let date = c.load-date.result in
    let table = c.store.ensures.0 ∙ c.load-date.ensures.0 in
    let view : c.store.new.seat.me.0 ≡ head_stored (cell_loaded date end.seat.me.0) =
    ap (λ m. m.0) c.store.ensures.2 ∙ ap (λ m. head_stored m.0) c.load-date.ensures.2 in
    (λ i. record {
      taken = (view i).list;
      tail = (view i).seen;
      loads = (view i).loads;
      ring = record { table = table i; room = end.room };
    })
    ∙ ap (λ (t : RoomTakeEnd). record t { taken = t.taken ++ date ∷ [] }) c.self.view_is

use Rattle.std.proofs.Common.{◌≡◌, ◌<◌, rules, arith, subst, sym, ap, [], ◌∷◌, ◌++◌, ◌∙◌, length, take, drop}
use Rattle.std.proofs.lemmas.List.{take-append-le, drop-append-le}
use Rattle.room_ring.specs.Put.{RoomPutEnd, room_space}
use Rattle.room_ring.specs.View.{cell_stored, tail_stored}
use Rattle.room_ring.proofs.Moves.{may_store_cell, may_store_tail}
use Rattle.room_ring.proofs.Ends.{space_within, same_cell, cell_within}
use Rattle.room_ring.proofs.put.RoomPut.put_within.Goals as goal

pub store-requires : goal.store-requires
store-requires c =
    let p = c.self.inside in
    let i = c.self.invariant in
    let key = ap (λ w. w.shared.key) c.deref.ensures ∙ i.seated.key in
    let words = ap (λ w. w.shared.table_id.words) c.deref.ensures ∙ i.seated.words in
    let some_room = i.seated.some_room in
    let space = space_within p.initial p.end.room p.end.seat.me.0.seen p.end.seat.me.0.list (subst (λ v. 0 < room_space v) (sym c.self.view_is) c.requires.space) in (
      search rules,
      cell_within _ _ _ _ c.cell-word.ensures i.seated.some_room words,
      may_store_cell _ _ _ _ _ _ i.putter.role (omega arith) i.putter.stored (omega arith) (same_cell _ _ _ _ _ c.cell-word.ensures key i.seated.count),
    )

pub store-requires-2 : goal.store-requires-2
store-requires-2 c =
    let i = c.self.invariant in
    let words = ap (λ w. w.shared.table_id.words) c.deref.ensures ∙ i.seated.words in
    let stored = ap (λ m. m.0) c.store.ensures.2 in
    let tail = i.seated.count in
    let same = ap (λ v. length v.list) stored in (
      search rules,
      omega arith,
      may_store_tail _ _ _ _ _ _ (ap (λ v. v.role) stored ∙ i.putter.role) (ap (λ v. v.stored) stored) (omega arith),
    )

pub returns : goal.returns
returns c =
    let end = c.self.inside.end in
    let first = c.self.inside.initial in
    let began = c.self.invariant.began in
    let table = c.store-2.ensures.0 ∙ c.store.ensures.0 in
    let view : c.store-2.new.seat.me.0 ≡ tail_stored (cell_stored c.args.date end.seat.me.0) =
    ap (λ m. m.0) c.store-2.ensures.2 ∙ ap (λ m. tail_stored m.0) c.store.ensures.2 in
    let initial = ap (λ v. take first v.list) view ∙ take-append-le first end.seat.me.0.list (c.args.date ∷ []) began in
    let added = ap (λ v. drop first v.list) view ∙ drop-append-le first end.seat.me.0.list (c.args.date ∷ []) began in
    (λ i. record {
      initial = initial i;
      added = added i;
      head = (view i).seen;
      loads = (view i).loads;
      ring = record { table = table i; room = end.room };
    })
    ∙ ap (λ (p : RoomPutEnd). record p { added = p.added ++ c.args.date ∷ [] }) c.self.view_is

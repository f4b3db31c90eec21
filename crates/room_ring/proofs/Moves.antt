-- Each step of a seat is one that the table of a ring allows.
use Rattle.std.proofs.Common.{◌≡◌, ℕ, zero, suc, ◌+◌, ◌<◌, ◌≢◌, ⊎_elim, true, false, List, [], ◌∷◌, ◌++◌, length, get_or, set, subst, sym, refl, ap, ◌∙◌, arith, None, Some}
use Rattle.std.proofs.lemmas.Bool.{false≢true}
use Rattle.std.proofs.lemmas.List.{set-get_or}
use mathlib.Core.Option.{none, some, some-injective, some-ne-none}
use lib.ListN.{get_elem?}
use Rattle.atomic_table.specs.Table.{State, Act, keeps, step, Valid, carried_after, Allows, Splits, Joins}
use Rattle.atomic_table.proofs.Lists.{set_again, set_else}
use Rattle.room_ring.specs.declared.view.View.{View}
use Rattle.room_ring.specs.declared.view.Role.TheVariants.{Putter, Taker, Note}
use Rattle.room_ring.specs.View.{first_taker, note, took, note_of, IsPutter, IsTaker, MayNote, MayHear, spent_view, cell_stored, tail_stored, other_seen, cell_loaded, head_stored, split_view, joined_view}
use Rattle.room_ring.specs.Rule.{number, head_word, tail, head, cell_of, Keeps, KeepsViews, KeepsRule}
use Rattle.room_ring.specs.Plays.{Mine, StoresCell, StoresTail, LoadsHead, LoadsTail, LoadsCell, StoresHead}
use Rattle.room_ring.proofs.Views.{prefix-length, prefix-self}
use Rattle.room_ring.proofs.Steps.{taker≢putter, note≢putter, head_within, keeps_load_head, keeps_store_cell, keeps_store_tail, keeps_load_tail, keeps_load_cell, keeps_store_head, keeps_first_split, keeps_note, keeps_putter_join, keeps_taker_join}

abbrev St : Type 0
St = State (Unit {0}) View

-- the seat has a new view and an act that keep the rule
abbrev Can : ℕ → ℕ → Mine → ℕ → ℕ → (Mine → Type 0) → St → List View → Type 0
Can size id me i n then s views = (u : View) × (a : Act (Unit {0})) × Valid s.homes me.1 a × KeepsViews size (set s.words i n) (set views id u) × then (u, carried_after me.1 a)

module _ (size slots id : ℕ) (me : Mine) (i : ℕ) (f : ℕ → ℕ) (w : ℕ → View) (then : ℕ → Mine → Type 0) where
  -- a step of the putter
  abbrev PutterStep : Type 0
  PutterStep = (row : List ℕ) (others : List View) → Keeps size row me.0 others → Keeps size (set row i (f (get_or row i 0))) (w (get_or row i 0)) others × then (get_or row i 0) (w (get_or row i 0), me.1)

  putter_by : me.0.role ≡ Putter → PutterStep → (s : St) (views : List View) (at : ℕ) → KeepsViews size s.words views → get_elem? views at ≡ some me.0 → Can size at me i (f (get_or s.words i 0)) (then (get_or s.words i 0)) s views
  putter_by is can s [] at kept here = absurd kept
  putter_by is can s (p ∷ others) zero kept here =
      let r = can s.words others (subst (λ q. Keeps size s.words q others) (some-injective p me.0 here) kept) in
      (w (get_or s.words i 0), keeps, tt, r.0, r.1)
  putter_by is can s (p ∷ others) (suc j) kept here = absurd (kept.seats.one_putter j me.0 here is)

  putter_moves : me.0.role ≡ Putter → PutterStep → Allows (KeepsRule size) slots id me i f then
  putter_moves is can s kept long at small = putter_by is can s s.views id kept at

  -- a step of the taker
  abbrev TakerStep : Type 0
  TakerStep = (row : List ℕ) (p : View) (others : List View) → Keeps size row p others → (j : ℕ) → get_elem? others j ≡ some me.0
      → Keeps size (set row i (f (get_or row i 0))) p (set others j (w (get_or row i 0))) × then (get_or row i 0) (w (get_or row i 0), me.1)

  taker_by : me.0.role ≡ Taker → TakerStep → (s : St) (views : List View) (at : ℕ) → KeepsViews size s.words views → get_elem? views at ≡ some me.0 → Can size at me i (f (get_or s.words i 0)) (then (get_or s.words i 0)) s views
  taker_by is can s [] at kept here = absurd kept
  taker_by is can s (p ∷ others) zero kept here = absurd (taker≢putter is (ap (λ (v : View). v.role) (sym (some-injective p me.0 here)) ∙ kept.seats.putter))
  taker_by is can s (p ∷ others) (suc j) kept here =
      let r = can s.words p others kept j here in
      (w (get_or s.words i 0), keeps, tt, r.0, r.1)

  taker_moves : me.0.role ≡ Taker → TakerStep → Allows (KeepsRule size) slots id me i f then
  taker_moves is can s kept long at small = taker_by is can s s.views id kept at

module _ (size slots id : ℕ) (me : Mine) where
  -- a load leaves the words
  unset : (row : List ℕ) (i : ℕ) (P : List ℕ → Type 0) → P row → P (set row i (get_or row i 0))
  unset row i P = subst P (sym (set-get_or row i 0))

  pub may_load_head : me.0.role ≡ Putter → Allows (KeepsRule size) slots id me head_word (λ n. n) (LoadsHead (step slots head_word 0 0 none) me)
  may_load_head is = putter_moves size slots id me head_word (λ n. n) (λ n. other_seen n me.0) (LoadsHead (step slots head_word 0 0 none) me) is (λ row others k. (
    unset row head_word (λ r. Keeps size r (other_seen (head row) me.0) others) (keeps_load_head size row me.0 others k),
    record { changed = refl; later = k.room.seen; most = head_within size row me.0 others k; heard = k.truth.heard; count = k.truth.count },
  ))

  pub may_store_cell : (word date : ℕ) → me.0.role ≡ Putter → 0 < size → me.0.stored ≡ None → length me.0.list < me.0.seen + size → word ≡ cell_of size (length me.0.list)
      → Allows (KeepsRule size) slots id me word (λ _. date) (λ _. StoresCell (step slots word date 0 none) me date)
  may_store_cell word date is some_room unstored space where_ = putter_moves size slots id me word (λ _. date) (λ _. cell_stored date me.0) (λ _. StoresCell (step slots word date 0 none) me date) is (λ row others k. (
    subst (λ i. Keeps size (set row i date) (cell_stored date me.0) others) (sym where_) (keeps_store_cell size row me.0 others k date some_room unstored space),
    refl,
  ))

  pub may_store_tail : (date new : ℕ) → me.0.role ≡ Putter → me.0.stored ≡ Some date → new ≡ length me.0.list + 1
      → Allows (KeepsRule size) slots id me 0 (λ _. new) (λ _. StoresTail (step slots 0 new 0 none) me new)
  may_store_tail date new is stored next = putter_moves size slots id me 0 (λ _. new) (λ _. tail_stored me.0) (λ _. StoresTail (step slots 0 new 0 none) me new) is (λ row others k. (
    subst (λ n. Keeps size (set row 0 n) (tail_stored me.0) others) (sym next) (keeps_store_tail size row me.0 others k date stored),
    refl,
  ))

  pub may_load_tail : me.0.role ≡ Taker → Allows (KeepsRule size) slots id me 0 (λ n. n) (LoadsTail (step slots 0 0 0 none) me)
  may_load_tail is = taker_moves size slots id me 0 (λ n. n) (λ n. other_seen n me.0) (LoadsTail (step slots 0 0 0 none) me) is (λ row p others k j at.
      let seen = (k.taken j me.0 at is).0 in let put = k.counts.put in let c = k.counts.taken j me.0 at is in
      let room = k.seats.taker_room j me.0 at is in let r = k.room.room in let s = k.room.seen in
      let t = prefix-length me.0.heard p.list (k.truth.each j me.0 at).heard in (
        unset row 0 (λ r. Keeps size r p (set others j (other_seen (tail row) me.0))) (keeps_load_tail size row p others k j me.0 at is),
        record { changed = refl; later = seen; most = omega arith; heard = omega arith },
      ))

  pub may_load_cell : (word : ℕ) → me.0.role ≡ Taker → me.0.is_loaded ≡ false → length me.0.list < me.0.seen → word ≡ cell_of size (length me.0.list)
      → Allows (KeepsRule size) slots id me word (λ n. n) (LoadsCell (step slots word 0 0 none) me)
  may_load_cell word is free known where_ = taker_moves size slots id me word (λ n. n) (λ n. cell_loaded n me.0) (LoadsCell (step slots word 0 0 none) me) is (λ row p others k j at. (
    unset row word (λ r. Keeps size r p (set others j (cell_loaded (get_or row word 0) me.0)))
        (subst (λ i. Keeps size row p (set others j (cell_loaded (get_or row i 0) me.0))) (sym where_) (keeps_load_cell size row p others k j me.0 at is free known)),
    refl,
  ))

  pub may_store_head : (new : ℕ) → me.0.role ≡ Taker → me.0.is_loaded ≡ true → new ≡ length me.0.list
      → Allows (KeepsRule size) slots id me head_word (λ _. new) (λ _. StoresHead (step slots head_word new 0 none) me new)
  may_store_head new is loaded next = taker_moves size slots id me head_word (λ _. new) (λ _. head_stored me.0) (λ _. StoresHead (step slots head_word new 0 none) me new) is (λ row p others k j at. (
    subst (λ n. Keeps size (set row head_word n) p (set others j (head_stored me.0))) (sym next) (keeps_store_head size row p others k j me.0 at is loaded),
    refl,
  ))

module _ (size id : ℕ) (v : View) where
  first_split_by : v.role ≡ Putter → v.is_split ≡ false → (row : List ℕ) (views : List View) (at : ℕ) → KeepsViews size row views → get_elem? views at ≡ some v → KeepsViews size row (set views at (split_view v) ++ first_taker v.room ∷ [])
  first_split_by is unsplit row [] at kept here = absurd kept
  first_split_by is unsplit row (p ∷ others) zero kept here =
      let k : Keeps size row v others = subst (λ q. Keeps size row q others) (some-injective p v here) kept in
      subst (λ os. Keeps size row (split_view v) (os ++ first_taker v.room ∷ [])) (sym (k.seats.alone unsplit)) (keeps_first_split size row v others k unsplit)
  first_split_by is unsplit row (p ∷ others) (suc j) kept here = absurd (kept.seats.one_putter j v here is)

  -- the first split of the putter makes the taker
  pub may_open : v.role ≡ Putter → v.is_split ≡ false → Splits (KeepsRule size) id v (split_view v) (first_taker v.room)
  may_open is unsplit s kept at = first_split_by is unsplit s.words s.views id kept at

  put_note_by : v.role ≡ Putter → v.is_split ≡ true → (row : List ℕ) (views : List View) (at : ℕ) → KeepsViews size row views → get_elem? views at ≡ some v → KeepsViews size row (set views at v ++ note v.list 0 ∷ [])
  put_note_by is split row [] at kept here = absurd kept
  put_note_by is split row (p ∷ others) zero kept here =
      let k : Keeps size row v others = subst (λ q. Keeps size row q others) (some-injective p v here) kept in
      keeps_note size row v others k v.list 0 (λ e. false≢true (sym e ∙ split)) (prefix-self v.list) (omega arith)
  put_note_by is split row (p ∷ others) (suc j) kept here = absurd (kept.seats.one_putter j v here is)

  taken_note_by : v.role ≡ Taker → v.is_loaded ≡ false → (row : List ℕ) (views : List View) (at : ℕ) → KeepsViews size row views → get_elem? views at ≡ some v → KeepsViews size row (set views at v ++ note v.list (length v.list) ∷ [])
  taken_note_by is free row [] at kept here = absurd kept
  taken_note_by is free row (p ∷ others) zero kept here = absurd (taker≢putter is (ap (λ (u : View). u.role) (sym (some-injective p v here)) ∙ kept.seats.putter))
  taken_note_by is free row (p ∷ others) (suc j) kept here =
      let c = kept.counts.taken j v here is in let z : number v.is_loaded ≡ 0 = ap number free in
      subst (λ os. Keeps size row p (os ++ note v.list (length v.list) ∷ [])) (sym (set_again others j v here))
      (keeps_note size row p others kept v.list (length v.list) (λ e. some-ne-none v (sym here ∙ ap (λ l. get_elem? l j) (kept.seats.alone e))) (kept.truth.each j v here).list (omega arith))

  -- the putter or the taker leaves a note of what was put or taken
  pub may_note : MayNote v → Splits (KeepsRule size) id v v (note_of v)
  may_note may s kept at =
      let left : ℕ → Type 0 = λ n. KeepsViews size s.words (set s.views id v ++ note v.list n ∷ []) in
      ⊎_elim
      (λ (putter : IsPutter v). subst left (sym (ap (λ r. took r (length v.list)) putter.role)) (put_note_by putter.role putter.split s.words s.views id kept at))
      (λ (taker : IsTaker v.room v). subst left (sym (ap (λ r. took r (length v.list)) taker.role)) (taken_note_by taker.role taker.free s.words s.views id kept at))
      may

  module _ (other : ℕ) (w : View) (is_note : w.role ≡ Note) where
    join_by : MayHear v → (row : List ℕ) (views : List View) (i j : ℕ) → KeepsViews size row views → get_elem? views i ≡ some v → j ≢ i → get_elem? (set views i (joined_view v w)) j ≡ some w → KeepsViews size row (set (set views i (joined_view v w)) j spent_view)
    join_by is row [] i j kept here apart there_ = absurd kept
    join_by is row (p ∷ others) zero zero kept here apart there_ = absurd (apart refl)
    join_by is row (p ∷ others) zero (suc j) kept here apart there_ =
        let k : Keeps size row v others = subst (λ q. Keeps size row q others) (some-injective p v here) kept in
        keeps_putter_join size row v others k j w there_ is_note
    join_by is row (p ∷ others) (suc i) zero kept here apart there_ = absurd (note≢putter (sym is_note ∙ (ap (λ (u : View). u.role) (sym (some-injective p w there_)) ∙ kept.seats.putter)))
    join_by is row (p ∷ others) (suc i) (suc j) kept here apart there_ =
        let taker : v.role ≡ Taker = ⊎_elim (λ e. absurd (kept.seats.one_putter i v here e)) (λ e. e) is in
        keeps_taker_join size row p others kept i j v w here taker (sym (set_else others i j (joined_view v w) (λ e. apart (ap suc e))) ∙ there_) there_ is_note

    -- the putter or the taker reads a note
    pub may_join : MayHear v → Joins (KeepsRule size) id v other w (joined_view v w) spent_view
    may_join is s kept at apart there_ = join_by is s.words s.views id other kept at apart there_

-- Each kind of step keeps the rule.
use Rattle.std.proofs.Common.{◌≡◌, inl, inr, ℕ, ◌+◌, ◌%◌, ◌<◌, ◌≤◌, ◌≢◌, Bool, true, false, List, [], ◌∷◌, ◌++◌, length, get_or, set, subst, sym, refl, ap, ◌∙◌, arith, length-append, length-set, get_or-set_other, get_or-set_same, None, Some}
use Rattle.std.proofs.lemmas.List.{get_or_append_left, get_or_push}
use Rattle.std.proofs.lemmas.Bool.{false≢true, cases_lt}
use Rattle.std.proofs.Math.Nat.{mod-lt}
use Rattle.std.specs.Prelude.{option_to_list}
use mathlib.Core.Option.{some, some-ne-none}
use mathlib.Core.List.{IsPrefix}
use lib.ListN.{get_elem?}
use Rattle.atomic_table.proofs.Lists.{one_turn}
use Rattle.room_ring.specs.declared.view.View.{View}
use Rattle.room_ring.specs.declared.view.Role.{Role}
use Rattle.room_ring.specs.declared.view.Role.TheVariants.{Putter, Taker, Note, Spent}
use Rattle.room_ring.specs.View.{first_taker, note, spent_view, cell_stored, tail_stored, other_seen, cell_loaded, head_stored, split_view, joined_view}
use Rattle.room_ring.specs.Rule.{number, is_taker, takers, Each, head_word, first_cell, tail, head, cell_of, cell, IsCounted, IsSeen, IsRoomy, IsTrueOf, HasSeats, Keeps}
use Rattle.room_ring.proofs.Views.{takers-set, takers-add, takers_at, one_seat, Takes, none, there, takes, each-set, each-add, prefix-none, prefix-longer, prefix-length, prefix-next}

abbrev is_putter : Role → Bool
is_putter Putter = true
is_putter Taker = false
is_putter Note = false
is_putter Spent = false

pub taker≢putter : {r : Role} → r ≡ Taker → r ≢ Putter
taker≢putter t p = false≢true (ap is_putter (sym t ∙ p))

pub note≢putter : Note ≢ Putter
note≢putter e = false≢true (ap is_putter e)

pub note≢taker : Note ≢ Taker
note≢taker e = false≢true (ap is_taker e)

spent_view≢putter : Spent ≢ Putter
spent_view≢putter e = false≢true (ap is_putter e)

spent_view≢taker : Spent ≢ Taker
spent_view≢taker e = false≢true (ap is_taker e)

is_taker_of : {r : Role} → r ≡ Taker → is_taker r ≡ true
is_taker_of e = ap is_taker e

same_date : (a b : ℕ) → Some a ≡ Some b → a ≡ b
same_date a b e = ap (λ o. Rattle.std.specs.Prelude.unwrap_or o 0) e

pub none≢some : {a : ℕ} → None ≡ Some a → ⊥
none≢some e = false≢true (ap Rattle.std.specs.Prelude.is_some e)

module _ (size : ℕ) (row : List ℕ) (p : View) (others : List View) (k : Keeps size row p others) where
  -- what was taken was put
  pub head_within : head row ≤ length p.list
  head_within = by (takes others)
    where
      by : Takes others → head row ≤ length p.list
      by (none z) = let e = k.counts.untaken z in omega arith
      by (there j v at is) = let e = k.counts.taken j v at is in let t = prefix-length v.list p.list (k.truth.each j v at).list in omega arith

  -- the putter changes what is no part of what it has put, stored or seen
  same_seats : (q : View) → q.role ≡ p.role → q.room ≡ p.room → q.is_split ≡ p.is_split → HasSeats size q others
  same_seats q r m s = record {
    putter = r ∙ k.seats.putter;
    room = m ∙ k.seats.room;
    one_putter = k.seats.one_putter;
    one_taker = k.seats.one_taker;
    taker_room = k.seats.taker_room;
    alone = λ e. k.seats.alone (sym s ∙ e);
  }

  pub keeps_load_head : Keeps size row (other_seen (head row) p) others
  keeps_load_head = record {
    words = k.words;
    seats = same_seats (other_seen (head row) p) refl refl refl;
    counts = record { put = k.counts.put; taken = k.counts.taken; untaken = k.counts.untaken };
    room = record { seen = omega arith; room = let s = k.room.seen in let r = k.room.room in omega arith };
    taken = k.taken;
    cells = record { published = k.cells.published; stored = k.cells.stored };
    truth = record { heard = k.truth.heard; count = k.truth.count; each = k.truth.each };
  }

  -- a cell that is set leaves the tail and the head
  same_tail : (at date : ℕ) → first_cell ≤ at → tail (set row at date) ≡ tail row
  same_tail at date past = get_or-set_other row at 0 date 0 (λ e. omega arith)

  same_head : (at date : ℕ) → first_cell ≤ at → head (set row at date) ≡ head row
  same_head at date past = get_or-set_other row at head_word date 0 (λ e. omega arith)

  -- the cell behind the last token is no cell of a token that waits
  other_cell : 0 < size → length p.list < p.seen + size → (i : ℕ) → head row ≤ i → i < tail row → cell_of size i ≢ cell_of size (length p.list)
  other_cell some_room space i from below e =
      let s = k.room.seen in let t = k.counts.put in
      let same : i ≡ length p.list = one_turn i (length p.list) size (omega arith) (omega arith) (let l : i % size + first_cell ≡ length p.list % size + first_cell = e in omega arith) in
      omega arith

  pub keeps_store_cell : (date : ℕ) → 0 < size → p.stored ≡ None → length p.list < p.seen + size → Keeps size (set row (cell_of size (length p.list)) date) (cell_stored date p) others
  keeps_store_cell date some_room unstored space =
      let at : ℕ = cell_of size (length p.list) in
      let past : first_cell ≤ at = omega arith in
      let t : tail (set row at date) ≡ tail row = same_tail at date past in
      let h : head (set row at date) ≡ head row = same_head at date past in
      let less : length p.list % size < size = mod-lt (length p.list) some_room in
      let wide = k.words in
      let here : get_or (set row at date) at 0 ≡ date = get_or-set_same row at date 0 (omega arith) in
      let put = k.counts.put in
      record {
        words = length-set row at date ∙ k.words;
        seats = same_seats (cell_stored date p) refl refl refl;
        counts = record { put = t ∙ put; taken = subst (λ n. Each (IsCounted n) others) (sym h) k.counts.taken; untaken = λ z. h ∙ k.counts.untaken z };
        room = record { seen = subst (λ n. p.seen ≤ n) (sym h) k.room.seen; room = omega arith };
        taken = subst (λ n. Each (IsSeen n) others) (sym t) k.taken;
        cells = record {
          published = λ i from below. get_or-set_other row at (cell_of size i) date 0 (other_cell some_room space i (omega arith) (omega arith)) ∙ k.cells.published i (omega arith) (omega arith);
          stored = λ d e. ap (λ n. get_or (set row at date) (cell_of size n) 0) (t ∙ put) ∙ (here ∙ same_date date d e);
        };
        truth = record { heard = k.truth.heard; count = subst (λ n. p.count ≤ n) (sym h) k.truth.count; each = subst (λ n. Each (IsTrueOf p.list n) others) (sym h) k.truth.each };
      }

  -- the stored date is put
  keeps_publish : (date : ℕ) → p.stored ≡ Some date → Keeps size (set row 0 (length p.list + 1)) (record p { list = p.list ++ date ∷ []; stored = None }) others
  keeps_publish date is =
      let n : ℕ = length p.list + 1 in
      let wide = k.words in
      let t : tail (set row 0 n) ≡ n = get_or-set_same row 0 n 0 (omega arith) in
      let h : head (set row 0 n) ≡ head row = get_or-set_other row 0 head_word n 0 (λ e. omega arith) in
      let l : length (p.list ++ date ∷ []) ≡ n = length-append p.list (date ∷ []) in
      let put = k.counts.put in
      let one : length (option_to_list p.stored) ≡ 1 = ap (λ o. length (option_to_list o)) is in
      let r = k.room.room in
      record {
        words = length-set row 0 n ∙ k.words;
        seats = same_seats (record p { list = p.list ++ date ∷ []; stored = None }) refl refl refl;
        counts = record { put = t ∙ sym l; taken = subst (λ n. Each (IsCounted n) others) (sym h) k.counts.taken; untaken = λ z. h ∙ k.counts.untaken z };
        room = record { seen = subst (λ n. p.seen ≤ n) (sym h) k.room.seen; room = omega arith };
        taken = λ j v at role. let s = k.taken j v at role in let a = s.0 in (omega arith, s.1);
        cells = record {
          published = λ i from below. get_or-set_other row 0 (cell_of size i) n 0 (λ e. omega arith) ∙ next_cell date is i (omega arith) (omega arith);
          stored = λ d e. absurd (none≢some e);
        };
        truth = record {
          heard = prefix-longer p.heard p.list (date ∷ []) k.truth.heard;
          count = subst (λ n. p.count ≤ n) (sym h) k.truth.count;
          each = λ j v at. let e = k.truth.each j v at in let c = e.count in record {
            list = prefix-longer v.list p.list (date ∷ []) e.list;
            heard = prefix-longer v.heard p.list (date ∷ []) e.heard;
            count = omega arith;
          };
        };
      }
    where
      next_cell : (date : ℕ) → p.stored ≡ Some date → (i : ℕ) → head row ≤ i → i < length p.list + 1 → cell size row i ≡ get_or (p.list ++ date ∷ []) i 0
      next_cell date is i from below = elim (cases_lt i (length p.list)) [
        | inl less ↦ k.cells.published i from (let put = k.counts.put in omega arith) ∙ sym (get_or_append_left p.list (date ∷ []) 0 i less)
        | inr more ↦ (let put = k.counts.put in let same : i ≡ tail row = omega arith in ap (λ n. cell size row n) same ∙ k.cells.stored date is) ∙ sym (get_or_push p.list date 0 i (omega arith))
      ]

  pub keeps_store_tail : (date : ℕ) → p.stored ≡ Some date → Keeps size (set row 0 (length p.list + 1)) (tail_stored p) others
  keeps_store_tail date is = subst (λ l. Keeps size (set row 0 (length p.list + 1)) (record p { list = l; stored = None }) others) (ap (λ o. p.list ++ option_to_list o) (sym is)) (keeps_publish date is)

  -- the view w takes the place of v, and no word changes
  module _ (j : ℕ) (v : View) (at : get_elem? others j ≡ some v) where
    seats-set : (w : View) → w.role ≢ Putter → is_taker w.role ≡ is_taker v.role → IsRoomy size w → HasSeats size p (set others j w)
    seats-set w no_putter same roomy =
        let t : takers (set others j w) ≡ takers others = takers-set others j v w at same in
        let most = k.seats.one_taker in
        record {
          putter = k.seats.putter;
          room = k.seats.room;
          one_putter = each-set (λ u. u.role ≢ Putter) others j w (λ i u ne is. k.seats.one_putter i u is) no_putter;
          one_taker = omega arith;
          taker_room = each-set (IsRoomy size) others j w (λ i u ne is. k.seats.taker_room i u is) roomy;
          alone = λ e. absurd (some-ne-none v (sym at ∙ ap (λ l. get_elem? l j) (k.seats.alone e)));
        }

    pub reseated : (w : View) → w.role ≢ Putter → is_taker w.role ≡ is_taker v.role → IsRoomy size w → IsCounted (head row) w → IsSeen (tail row) w → IsTrueOf p.list (head row) w
        → Keeps size row p (set others j w)
    reseated w no_putter same roomy counted seen true_ =
        let t : takers (set others j w) ≡ takers others = takers-set others j v w at same in
        record {
          words = k.words;
          seats = seats-set w no_putter same roomy;
          counts = record {
            put = k.counts.put;
            taken = each-set (IsCounted (head row)) others j w (λ i u ne is. k.counts.taken i u is) counted;
            untaken = λ z. k.counts.untaken (sym t ∙ z);
          };
          room = k.room;
          taken = each-set (IsSeen (tail row)) others j w (λ i u ne is. k.taken i u is) seen;
          cells = k.cells;
          truth = record {
            heard = k.truth.heard;
            count = k.truth.count;
            each = each-set (IsTrueOf p.list (head row)) others j w (λ i u ne is. k.truth.each i u is) true_;
          };
        }

    module _ (is : v.role ≡ Taker) where
      pub keeps_load_tail : Keeps size row p (set others j (other_seen (tail row) v))
      keeps_load_tail =
          let s = k.taken j v at is in let a = s.0 in let b = s.1 in
          reseated (other_seen (tail row) v) (k.seats.one_putter j v at) refl (k.seats.taker_room j v at) (k.counts.taken j v at)
          (λ r. (omega arith, omega arith)) (record { list = (k.truth.each j v at).list; heard = (k.truth.each j v at).heard; count = (k.truth.each j v at).count })

      -- what stands in the cell that comes next is the next token that was put
      next_token : v.is_loaded ≡ false → length v.list < v.seen → cell size row (length v.list) ≡ get_or p.list (length v.list) 0
      next_token free known =
          let s = (k.taken j v at is).0 in let c = k.counts.taken j v at is in let z : number v.is_loaded ≡ 0 = ap number free in
          k.cells.published (length v.list) (omega arith) (omega arith)

      pub keeps_load_cell : v.is_loaded ≡ false → length v.list < v.seen → Keeps size row p (set others j (cell_loaded (cell size row (length v.list)) v))
      keeps_load_cell free known =
          let x : ℕ = cell size row (length v.list) in
          let s = (k.taken j v at is).0 in let put = k.counts.put in
          let c = k.counts.taken j v at is in let z : number v.is_loaded ≡ 0 = ap number free in
          let l : length (v.list ++ x ∷ []) ≡ length v.list + 1 = length-append v.list (x ∷ []) in
          let t = k.truth.each j v at in
          reseated (cell_loaded x v) (k.seats.one_putter j v at) refl (k.seats.taker_room j v at)
          (λ r. let goal : length (v.list ++ x ∷ []) ≡ head row + 1 = omega arith in goal)
          (λ r. (s, (let goal : length (v.list ++ x ∷ []) ≤ v.seen = omega arith in goal)))
          (record { list = prefix-next v.list p.list x t.list (omega arith) (next_token free known); heard = t.heard; count = t.count })

      pub keeps_store_head : v.is_loaded ≡ true → Keeps size (set row head_word (length v.list)) p (set others j (head_stored v))
      keeps_store_head loaded =
          let n : ℕ = length v.list in
          let w : View = head_stored v in
          let c = k.counts.taken j v at is in let o : number v.is_loaded ≡ 1 = ap number loaded in
          let wide = k.words in
          let h : head (set row head_word n) ≡ n = get_or-set_same row head_word n 0 (omega arith) in
          let t : tail (set row head_word n) ≡ tail row = get_or-set_other row head_word 0 n 0 (λ e. omega arith) in
          let same : takers (set others j w) ≡ takers others = takers-set others j v w at refl in
          let most = k.seats.one_taker in let some_taker = takers_at others j v at is in
          let truth = k.truth.each j v at in
          record {
            words = length-set row head_word n ∙ k.words;
            seats = seats-set w (k.seats.one_putter j v at) refl (k.seats.taker_room j v at);
            counts = record {
              put = t ∙ k.counts.put;
              taken = each-set (IsCounted (head (set row head_word n))) others j w (λ i u ne isu role. absurd (ne (one_seat others i j u v most isu at role is))) (λ r. let goal : n ≡ head (set row head_word n) + 0 = omega arith in goal);
              untaken = λ z. absurd (omega arith);
            };
            room = record { seen = let s = k.room.seen in omega arith; room = k.room.room };
            taken = subst (λ m. Each (IsSeen m) (set others j w)) (sym t) (each-set (IsSeen (tail row)) others j w (λ i u ne isu. k.taken i u isu) (k.taken j v at));
            cells = record {
              published = λ i from below. get_or-set_other row head_word (cell_of size i) n 0 (λ e. omega arith) ∙ k.cells.published i (omega arith) (omega arith);
              stored = λ d e. ap (λ m. cell size (set row head_word n) m) t ∙ (get_or-set_other row head_word (cell_of size (tail row)) n 0 (λ e. omega arith) ∙ k.cells.stored d e);
            };
            truth = record {
              heard = k.truth.heard;
              count = let b = k.truth.count in omega arith;
              each = each-set (IsTrueOf p.list (head (set row head_word n))) others j w
                  (λ i u ne isu. let e = k.truth.each i u isu in let b = e.count in record { list = e.list; heard = e.heard; count = omega arith })
                  (let b = truth.count in record { list = truth.list; heard = truth.heard; count = omega arith });
            };
          }

  pub keeps_first_split : p.is_split ≡ false → Keeps size row (split_view p) (first_taker p.room ∷ [])
  keeps_first_split unsplit =
      let empty : others ≡ [] = k.seats.alone unsplit in
      let h : head row ≡ 0 = k.counts.untaken (ap takers empty) in
      let new : View = first_taker p.room in
      record {
        words = k.words;
        seats = record {
          putter = k.seats.putter;
          room = k.seats.room;
          one_putter = each-add (λ u. u.role ≢ Putter) [] new (no_view _) (taker≢putter refl);
          one_taker = omega arith;
          taker_room = each-add (IsRoomy size) [] new (no_view _) (λ r. k.seats.room);
          alone = λ e. absurd (false≢true (sym e));
        };
        counts = record {
          put = k.counts.put;
          taken = each-add (IsCounted (head row)) [] new (no_view _) (λ r. let goal : 0 ≡ head row + 0 = omega arith in goal);
          untaken = λ z. h;
        };
        room = record { seen = k.room.seen; room = k.room.room };
        taken = each-add (IsSeen (tail row)) [] new (no_view _) (λ r. (omega arith, omega arith));
        cells = record { published = k.cells.published; stored = k.cells.stored };
        truth = record {
          heard = k.truth.heard;
          count = k.truth.count;
          each = each-add (IsTrueOf p.list (head row)) [] new (no_view _) (record { list = prefix-none p.list; heard = prefix-none p.list; count = omega arith });
        };
      }
    where
      no_view : (P : View → Type 0) → Each P []
      no_view P j v at = absurd (some-ne-none v (sym at))

  pub keeps_note : (tokens : List ℕ) (count : ℕ) → p.is_split ≢ false → IsPrefix tokens p.list → count ≤ head row → Keeps size row p (others ++ note tokens count ∷ [])
  keeps_note tokens count split begins given =
      let w : View = note tokens count in
      let t : takers (others ++ w ∷ []) ≡ takers others + 0 = takers-add others w in
      let most = k.seats.one_taker in
      record {
        words = k.words;
        seats = record {
          putter = k.seats.putter;
          room = k.seats.room;
          one_putter = each-add (λ u. u.role ≢ Putter) others w k.seats.one_putter note≢putter;
          one_taker = omega arith;
          taker_room = each-add (IsRoomy size) others w k.seats.taker_room (λ r. absurd (note≢taker r));
          alone = λ e. absurd (split e);
        };
        counts = record {
          put = k.counts.put;
          taken = each-add (IsCounted (head row)) others w k.counts.taken (λ r. absurd (note≢taker r));
          untaken = λ z. k.counts.untaken (omega arith);
        };
        room = k.room;
        taken = each-add (IsSeen (tail row)) others w k.taken (λ r. absurd (note≢taker r));
        cells = k.cells;
        truth = record {
          heard = k.truth.heard;
          count = k.truth.count;
          each = each-add (IsTrueOf p.list (head row)) others w k.truth.each (record { list = begins; heard = prefix-none p.list; count = given });
        };
      }

  -- the putter reads a note
  keeps_told : (w : View) → IsTrueOf p.list (head row) w → Keeps size row (joined_view p w) others
  keeps_told w t = record {
    words = k.words;
    seats = same_seats (joined_view p w) refl refl refl;
    counts = record { put = k.counts.put; taken = k.counts.taken; untaken = k.counts.untaken };
    room = record { seen = k.room.seen; room = k.room.room };
    taken = k.taken;
    cells = record { published = k.cells.published; stored = k.cells.stored };
    truth = record { heard = t.list; count = t.count; each = k.truth.each };
  }

-- a note is spent
spend : (size : ℕ) (row : List ℕ) (p : View) (others : List View) → Keeps size row p others → (j : ℕ) (w : View) → get_elem? others j ≡ some w → w.role ≡ Note → Keeps size row p (set others j spent_view)
spend size row p others k j w at is = reseated size row p others k j w at spent_view spent_view≢putter (sym (ap is_taker is)) (λ r. absurd (spent_view≢taker r)) (λ r. absurd (spent_view≢taker r)) (λ r. absurd (spent_view≢taker r))
    (record { list = prefix-none p.list; heard = prefix-none p.list; count = omega arith })

pub keeps_putter_join : (size : ℕ) (row : List ℕ) (p : View) (others : List View) → Keeps size row p others → (j : ℕ) (w : View) → get_elem? others j ≡ some w → w.role ≡ Note → Keeps size row (joined_view p w) (set others j spent_view)
keeps_putter_join size row p others k j w at is = spend size row (joined_view p w) others (keeps_told size row p others k w (k.truth.each j w at)) j w at is

pub keeps_taker_join : (size : ℕ) (row : List ℕ) (p : View) (others : List View) → Keeps size row p others → (i j : ℕ) (v w : View) → get_elem? others i ≡ some v → v.role ≡ Taker → get_elem? others j ≡ some w → get_elem? (set others i (joined_view v w)) j ≡ some w → w.role ≡ Note
    → Keeps size row p (set (set others i (joined_view v w)) j spent_view)
keeps_taker_join size row p others k i j v w at is at' there_ is' =
    let t = k.truth.each j w at' in let o = k.truth.each i v at in
    spend size row p (set others i (joined_view v w))
    (reseated size row p others k i v at (joined_view v w) (k.seats.one_putter i v at) refl (k.seats.taker_room i v at) (k.counts.taken i v at) (k.taken i v at) (record { list = o.list; heard = t.list; count = t.count }))
    j w there_ is'

-- The rule, the views and the words of contracts, at small examples.
use Rattle.std.proofs.Common.{◌≡◌, ℕ, true, List, [], ◌∷◌, refl, sym, None, Some, arith}
use mathlib.Core.Option.{some-ne-none}
use Rattle.room_ring.specs.declared.view.View.{View}
use Rattle.room_ring.specs.View.{first_putter, first_taker, note, spent_view, cell_stored, tail_stored, other_seen, cell_loaded, head_stored, joined_view}
use Rattle.room_ring.specs.Rule.{takers, tail, head, cell_of, cell, Keeps}
use Rattle.room_ring.proofs.Views.{prefix-none}
use Rattle.room_ring.proofs.Steps.{none≢some, keeps_store_cell, keeps_store_tail}

-- the words of a ring with this tail and head, and these cells
abbrev with_words : ℕ → ℕ → List ℕ → List ℕ
with_words tail head cells =
    tail ∷ 0 ∷ 0 ∷ 0 ∷ 0 ∷ 0 ∷ 0 ∷ 0 ∷ head ∷ 0 ∷ 0 ∷ 0 ∷ 0 ∷ 0 ∷ 0 ∷ 0 ∷ cells

-- room for 2: token 5 stands where token 3 stood
words : List ℕ
words = with_words 5 4 (40 ∷ 30 ∷ [])

tail_is : tail words ≡ 5
unfolding words
tail_is = refl

head_is : head words ≡ 4
unfolding words
head_is = refl

same_place : cell_of 2 5 ≡ cell_of 2 3
same_place = refl

fourth : cell 2 words 4 ≡ 40
unfolding words
fourth = refl

-- a date is put by two steps
stored : cell_stored 7 (first_putter 2) ≡ record (first_putter 2) { stored = Some 7 }
stored = refl

put : (tail_stored (cell_stored 7 (first_putter 2))).list ≡ 7 ∷ []
put = refl

put_nothing_stored : (tail_stored (cell_stored 7 (first_putter 2))).stored ≡ None
put_nothing_stored = refl

-- a token is taken by two steps
taken : head_stored (cell_loaded 7 (first_taker 2)) ≡ record (first_taker 2) { list = 7 ∷ [] }
taken = refl

between : (cell_loaded 7 (first_taker 2)).is_loaded ≡ true
between = refl

-- a look is counted, and changes nothing that was put or taken
looked : other_seen 3 (other_seen 1 (first_taker 2)) ≡ record (first_taker 2) { seen = 3; loads = 2 }
looked = refl

-- a note of the taker is read
heard : joined_view (first_putter 2) (note (7 ∷ 8 ∷ []) 2) ≡ record (first_putter 2) { heard = 7 ∷ 8 ∷ []; count = 2 }
heard = refl

-- a taker, a note and a seat that was joined: one taker
one_taker : takers (first_taker 2 ∷ note [] 0 ∷ spent_view ∷ []) ≡ 1
one_taker = refl

-- the rule holds of a ring that has put nothing
abbrev begun : Keeps 2 (with_words 0 0 (0 ∷ 0 ∷ [])) (first_putter 2) []
begun = record {
  words = refl;
  seats = record { putter = refl; room = refl; one_putter = λ j v at. absurd (some-ne-none v (sym at)); one_taker = omega arith; taker_room = λ j v at. absurd (some-ne-none v (sym at)); alone = λ e. refl };
  counts = record { put = refl; taken = λ j v at. absurd (some-ne-none v (sym at)); untaken = λ e. refl };
  room = record { seen = omega arith; room = omega arith };
  taken = λ j v at. absurd (some-ne-none v (sym at));
  cells = record { published = λ i from below. absurd (omega arith); stored = λ date e. absurd (none≢some e) };
  truth = record { heard = prefix-none []; count = omega arith; each = λ j v at. absurd (some-ne-none v (sym at)) };
}

-- and after its first put
first_put : Keeps 2 (with_words 1 0 (7 ∷ 0 ∷ [])) (record (first_putter 2) { list = 7 ∷ [] }) []
first_put = keeps_store_tail 2 (with_words 0 0 (7 ∷ 0 ∷ [])) (cell_stored 7 (first_putter 2)) [] (keeps_store_cell 2 (with_words 0 0 (0 ∷ 0 ∷ [])) (first_putter 2) [] begun 7 (omega arith) refl (omega arith)) 7 refl

-- it doesn't hold where the cell of a token that waits was used again
used_again : (others : List View) → Keeps 2 (with_words 3 0 (9 ∷ 8 ∷ [])) (record (first_putter 2) { list = 7 ∷ 8 ∷ 9 ∷ [] }) others → ⊥
used_again others k = let e : ◌≡◌ {A = ℕ} 9 7 = k.cells.published 0 (omega arith) (omega arith) in omega arith

-- nor where the tail was published before its cell
published_early : (others : List View) → Keeps 2 (with_words 1 0 (0 ∷ 0 ∷ [])) (record (first_putter 2) { list = 7 ∷ [] }) others → ⊥
published_early others k = let e : ◌≡◌ {A = ℕ} 0 7 = k.cells.published 0 (omega arith) (omega arith) in omega arith

-- What marking the dates that read another one does to the marks.
use Rattle.std.proofs.Common.{◌≡◌, ◌≢◌, ℕ, zero, suc, ◌+◌, ◌<◌, ◌≤◌, Bool, true, false, cond, leb, List, [], ◌∷◌, length, get_or, set, refl, sym, ap, ◌∙◌, subst, arith, inl, inr}
use Rattle.std.specs.List.{fold, All}
use Rattle.std.proofs.lemmas.Bool.{cases_eq, cases_lt, cond-true, cond-false, le-leb, lt-leb}
use Rattle.std.proofs.lemmas.List.{get_or-set_same, get_or-set_other, length-set, get_or_past, set_past}
use Rattle.std.proofs.lemmas.List.Sums.{sum_by-set}
use Rattle.std.proofs.lemmas.List.Elements.{All-head, All-tail}
use Rattle.event_graph.specs.Network.{jobs, arc, outs, StartsAt}
use Rattle.event_graph.proofs.ArcNumbers.{All-outs, Contains-outs}
use Rattle.live_check.specs.Order.{LiveGraph}
use Rattle.what_if.specs.Marks.{is_at, count_of}
use Rattle.what_if.specs.Page.{slot}
use Rattle.what_if.specs.Evaluation.{with_reader, with_readers}

-- ---- one mark more, or one fewer

pub is_at-set_other : (marks : List Bool) (k j : ℕ) (b : Bool) → j ≢ k → is_at (set marks k b) j ≡ is_at marks j
is_at-set_other marks k j b other = get_or-set_other marks k j b false other

pub is_at-set_same : (marks : List Bool) (k : ℕ) (b : Bool) → k < length marks → is_at (set marks k b) k ≡ b
is_at-set_same marks k b low = get_or-set_same marks k b false low

pub is_at-cleared : (marks : List Bool) (k : ℕ) → is_at (set marks k false) k ≡ false
is_at-cleared marks k =
    elim (cases_lt k (length marks)) [
      | inl low ↦ is_at-set_same marks k false low
      | inr past ↦ get_or_past (set marks k false) k false (omega (arith, length-set marks k false))
    ]

pub count_of-set : (marks : List Bool) (k : ℕ) → count_of (set marks k true) ≤ count_of marks + 1
count_of-set marks k =
    elim (cases_lt k (length marks)) [
      | inl low ↦ omega (arith, sum_by-set (λ (m : Bool). cond m 1 0) marks k true false low)
      | inr past ↦ omega (arith, ap count_of (set_past marks k true past))
    ]

pub count_of-cleared : (marks : List Bool) (k : ℕ) → count_of (set marks k false) ≤ count_of marks
count_of-cleared marks k =
    elim (cases_lt k (length marks)) [
      | inl low ↦ omega (arith, sum_by-set (λ (m : Bool). cond m 1 0) marks k false false low)
      | inr past ↦ omega (arith, ap count_of (set_past marks k false past))
    ]

-- ---- the readers

-- the slot of the date that reads through arc a, where there is one
abbrev reader_slot : LiveGraph → ℕ → ℕ → ℕ
reader_slot l n a = slot l (arc l.graph a).to (n + (arc l.graph a).tokens)

abbrev Reads : LiveGraph → ℕ → ℕ → Type 0
Reads l n a = n + (arc l.graph a).tokens ≤ jobs l.graph

reader-there : (l : LiveGraph) (n : ℕ) (marks : List Bool) (a : ℕ) → Reads l n a → with_reader l n marks a ≡ set marks (reader_slot l n a) true
reader-there l n marks a there = cond-true (leb (n + (arc l.graph a).tokens) (jobs l.graph)) _ _ (le-leb _ _ there)

reader-past : (l : LiveGraph) (n : ℕ) (marks : List Bool) (a : ℕ) → jobs l.graph < n + (arc l.graph a).tokens → with_reader l n marks a ≡ marks
reader-past l n marks a past = cond-false (leb (n + (arc l.graph a).tokens) (jobs l.graph)) _ _ (lt-leb _ _ past)

module _ (l : LiveGraph) (n : ℕ) where
  readers : List Bool → List ℕ → List Bool
  readers marks arcs = fold (with_reader l n) marks arcs

  pub length-reader : (marks : List Bool) (a : ℕ) → length (with_reader l n marks a) ≡ length marks
  length-reader marks a =
      elim (cases_lt (jobs l.graph) (n + (arc l.graph a).tokens)) [
        | inl past ↦ ap length (reader-past l n marks a past)
        | inr there ↦ ap length (reader-there l n marks a there) ∙ length-set marks (reader_slot l n a) true
      ]

  length-readers : (arcs : List ℕ) (marks : List Bool) → length (readers marks arcs) ≡ length marks
  unfolding readers
  length-readers [] marks = refl
  length-readers (a ∷ arcs) marks = length-readers arcs (with_reader l n marks a) ∙ length-reader marks a

  count-reader : (marks : List Bool) (a : ℕ) → count_of (with_reader l n marks a) ≤ count_of marks + 1
  count-reader marks a =
      elim (cases_lt (jobs l.graph) (n + (arc l.graph a).tokens)) [
        | inl past ↦ omega (arith, ap count_of (reader-past l n marks a past))
        | inr there ↦ omega (arith, ap count_of (reader-there l n marks a there), count_of-set marks (reader_slot l n a))
      ]

  count-readers : (arcs : List ℕ) (marks : List Bool) → count_of (readers marks arcs) ≤ count_of marks + length arcs
  unfolding readers
  count-readers [] marks = omega arith
  count-readers (a ∷ arcs) marks = omega (arith, count-readers arcs (with_reader l n marks a), count-reader marks a)

  -- what is marked stays so
  keeps-reader : (marks : List Bool) (a k : ℕ) → is_at marks k ≡ true → is_at (with_reader l n marks a) k ≡ true
  keeps-reader marks a k is =
      elim (cases_lt (jobs l.graph) (n + (arc l.graph a).tokens)) [
        | inl past ↦ ap (λ m. is_at m k) (reader-past l n marks a past) ∙ is
        | inr there ↦
            let s = reader_slot l n a in
            ap (λ m. is_at m k) (reader-there l n marks a there)
            ∙ elim (cases_eq k s) as (λ _. is_at (set marks s true) k ≡ true) [
              | inl same ↦ elim (cases_lt s (length marks)) [
                | inl low ↦ ap (is_at (set marks s true)) same ∙ is_at-set_same marks s true low
                | inr past ↦ ap (λ m. is_at m k) (set_past marks s true past) ∙ is
              ]
              | inr other ↦ is_at-set_other marks s k true other ∙ is
            ]
      ]

  keeps-readers : (arcs : List ℕ) (marks : List Bool) (k : ℕ) → is_at marks k ≡ true → is_at (readers marks arcs) k ≡ true
  unfolding readers
  keeps-readers [] marks k is = is
  keeps-readers (a ∷ arcs) marks k is = keeps-readers arcs (with_reader l n marks a) k (keeps-reader marks a k is)

  -- each reader gets its mark
  marks-reader : (arcs : List ℕ) (marks : List Bool) (j d : ℕ) → j < length arcs → Reads l n (get_or arcs j d) → reader_slot l n (get_or arcs j d) < length marks → is_at (readers marks arcs) (reader_slot l n (get_or arcs j d)) ≡ true
  unfolding readers
  marks-reader [] marks j d low there room = absurd (omega arith)
  marks-reader (a ∷ arcs) marks zero d low there room =
      keeps-readers arcs (with_reader l n marks a) (reader_slot l n a) (
      ap (λ m. is_at m (reader_slot l n a)) (reader-there l n marks a there) ∙ is_at-set_same marks (reader_slot l n a) true room)
  marks-reader (a ∷ arcs) marks (suc j) d low there room =
      marks-reader arcs (with_reader l n marks a) j d (omega arith) there (omega (arith, length-reader marks a, room))

  -- nothing else is marked
  only-reader : (marks : List Bool) (a k : ℕ) → (Reads l n a → k ≢ reader_slot l n a) → is_at (with_reader l n marks a) k ≡ is_at marks k
  only-reader marks a k other =
      elim (cases_lt (jobs l.graph) (n + (arc l.graph a).tokens)) [
        | inl past ↦ ap (λ m. is_at m k) (reader-past l n marks a past)
        | inr there ↦ ap (λ m. is_at m k) (reader-there l n marks a there) ∙ is_at-set_other marks (reader_slot l n a) k true (other there)
      ]

  only-readers : (arcs : List ℕ) (marks : List Bool) (k : ℕ) → All (λ a. Reads l n a → k ≢ reader_slot l n a) arcs → is_at (readers marks arcs) k ≡ is_at marks k
  unfolding readers
  only-readers [] marks k others = refl
  only-readers (a ∷ arcs) marks k others =
      let Other : ℕ → Type 0 = λ b. Reads l n b → k ≢ reader_slot l n b in
      only-readers arcs (with_reader l n marks a) k (All-tail Other a arcs others) ∙ only-reader marks a k (All-head Other a arcs others)

module _ (l : LiveGraph) (t n : ℕ) (marks : List Bool) where
  readers-are : with_readers l t n marks ≡ readers l n marks (outs l.graph t)
  unfolding with_readers readers
  readers-are = refl

  pub length-with_readers : length (with_readers l t n marks) ≡ length marks
  length-with_readers = ap length readers-are ∙ length-readers l n (outs l.graph t) marks

  pub count-with_readers : count_of (with_readers l t n marks) ≤ count_of marks + length (outs l.graph t)
  count-with_readers = omega (arith, ap count_of readers-are, count-readers l n (outs l.graph t) marks)

  pub keeps-with_readers : (k : ℕ) → is_at marks k ≡ true → is_at (with_readers l t n marks) k ≡ true
  keeps-with_readers k is = ap (λ m. is_at m k) readers-are ∙ keeps-readers l n (outs l.graph t) marks k is

  pub marks-with_readers : (a : ℕ) → StartsAt l.graph t a → n + (arc l.graph a).tokens ≤ jobs l.graph → slot l (arc l.graph a).to (n + (arc l.graph a).tokens) < length marks → is_at (with_readers l t n marks) (slot l (arc l.graph a).to (n + (arc l.graph a).tokens)) ≡ true
  marks-with_readers a starts there room =
      let at = Contains-outs l.graph t a starts.0 starts.1 in
      let is : get_or (outs l.graph t) at.0 a ≡ a = at.2 in
      ap (λ m. is_at m (reader_slot l n a)) readers-are
      ∙ subst (λ b. is_at (readers l n marks (outs l.graph t)) (reader_slot l n b) ≡ true) is (
      marks-reader l n (outs l.graph t) marks at.0 a at.1
      (subst (Reads l n) (sym is) there)
      (subst (λ b. reader_slot l n b < length marks) (sym is) room))

  pub only-with_readers : (k : ℕ) → ((a : ℕ) → StartsAt l.graph t a → n + (arc l.graph a).tokens ≤ jobs l.graph → k ≢ slot l (arc l.graph a).to (n + (arc l.graph a).tokens)) → is_at (with_readers l t n marks) k ≡ is_at marks k
  only-with_readers k others =
      ap (λ m. is_at m k) readers-are
      ∙ only-readers l n (outs l.graph t) marks k (λ j d low. others (get_or (outs l.graph t) j d) (All-outs l.graph t j d low))

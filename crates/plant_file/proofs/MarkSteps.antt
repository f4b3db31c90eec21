-- Marking column by column, element after element of a list.
use Rattle.std.proofs.Common.{◌≡◌, ℕ, ◌+◌, ◌<◌, ◌≤◌, Bool, true, false, List, drop, length, get_or, refl, sym, ap, ◌∙◌, arith, drop-cons, add-one}
use Rattle.std.specs.Prelude.{◌||◌}
use Rattle.std.specs.List.{list_any}
use Rattle.std.proofs.lemmas.List.{drop_all}
use Rattle.plant_file.specs.Columns.{AddsMarks}

-- with what the elements from number k on will mark, the marks are those of the whole list
pub record MarksRest {X : Type 0} (used : X → ℕ → Bool) (xs : List X) (k : ℕ) (old now : List Bool) : Type 0 where
  pub same_length : length now ≡ length old
  pub marked : (c : ℕ) → c < length old → (get_or now c false || list_any (λ x. used x c) (drop k xs)) ≡ (get_or old c false || list_any (λ x. used x c) xs)

or-assoc : (a b c : Bool) → ((a || b) || c) ≡ (a || (b || c))
or-assoc true b c = refl
or-assoc false b c = refl

pub marks_more : {X : Type 0} (used : X → ℕ → Bool) (xs : List X) (k : ℕ) (d : X) (old now next : List Bool) → k < length xs → MarksRest used xs k old now → AddsMarks now next (used (get_or xs k d)) → MarksRest used xs (k + 1) old next
marks_more used xs k d old now next low rest added = record {
  same_length = added.same_length ∙ rest.same_length;
  marked = λ c there.
      let here = added.marked c (omega (arith, rest.same_length)) in
      let later = list_any (λ x. used x c) (drop (k + 1) xs) in
      let split : list_any (λ x. used x c) (drop k xs) ≡ (used (get_or xs k d) c || later) =
      ap (list_any (λ x. used x c)) (drop-cons xs k d low)
      ∙ ap (λ n. used (get_or xs k d) c || list_any (λ x. used x c) (drop n xs)) (sym (add-one k)) in
      ap (λ b. b || later) here
      ∙ or-assoc (get_or now c false) (used (get_or xs k d) c) later
      ∙ ap (λ b. get_or now c false || b) (sym split)
      ∙ rest.marked c there;
}

or-false : (a : Bool) → (a || false) ≡ a
or-false true = refl
or-false false = refl

pub marks_all : {X : Type 0} (used : X → ℕ → Bool) (xs : List X) (k : ℕ) (old now : List Bool) → length xs ≤ k → MarksRest used xs k old now → AddsMarks old now (λ c. list_any (λ x. used x c) xs)
marks_all used xs k old now past rest = record {
  same_length = rest.same_length;
  marked = λ c there.
      sym (or-false (get_or now c false))
      ∙ ap (λ ys. get_or now c false || list_any (λ x. used x c) ys) (sym (drop_all k xs past))
      ∙ rest.marked c there;
}

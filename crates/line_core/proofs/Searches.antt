-- What a search for the first arc without a token, or for the first station that is behind, finds.
use Rattle.std.proofs.Common.{◌≡◌, ◌≢◌, ℕ, zero, suc, ◌+◌, ◌<◌, ◌≤◌, Bool, true, false, cond, ltb, List, [], ◌∷◌, drop, length, get_or, max, refl, sym, ap, ◌∙◌, arith, drop-cons, add-one}
use Rattle.std.specs.Prelude.{Option, None, Some, is_some, not}
use Rattle.std.specs.Ordering.{ord_max, nat_cmp}
use Rattle.std.specs.List.{All, find, range_with_len}
use Rattle.std.proofs.lemmas.Bool.Decides.{nat_tests}
use Rattle.std.proofs.lemmas.Bool.{eqb-false, le-ltb}
use Rattle.std.proofs.lemmas.List.{drop_all}
use Rattle.std.proofs.lemmas.List.FromFn.{length-range_with_len, get_or-range_with_len}
use Rattle.line_base.specs.declared.event.Parts.{Parts}
use Rattle.event_graph.specs.Network.{stations, jobs, ins}
use Rattle.event_graph.specs.State.{State, log, place}
use Rattle.event_graph.specs.Firing.{CanFire}
use Rattle.event_graph.specs.GreatestValue.{greatest}
use Rattle.event_graph.proofs.ArcNumbers.{each_input}
use Rattle.line_core.specs.Consistent.{IsFinished, IsConsistent}
use Rattle.line_core.specs.Refusals.{is_empty, is_behind, first_empty, first_unfinished}

pub find-here : {X : Type 0} (p : X → Bool) (xs : List X) (i : ℕ) (d : X) → i < length xs → p (get_or xs i d) ≡ true → find p (drop i xs) ≡ Some (get_or xs i d)
find-here p xs i d low found =
    ap (find p) (drop-cons xs i d low) ∙ ap (λ b. cond b (Some (get_or xs i d)) (find p (drop (suc i) xs))) found

pub find-later : {X : Type 0} (p : X → Bool) (xs : List X) (i : ℕ) (d : X) → i < length xs → p (get_or xs i d) ≡ false → find p (drop (i + 1) xs) ≡ find p (drop i xs)
find-later p xs i d low fails =
    ap (λ n. find p (drop n xs)) (add-one i)
    ∙ sym (ap (find p) (drop-cons xs i d low) ∙ ap (λ b. cond b (Some (get_or xs i d)) (find p (drop (suc i) xs))) fails)

pub find-past : {X : Type 0} (p : X → Bool) (xs : List X) (i : ℕ) → length xs ≤ i → find p (drop i xs) ≡ None
find-past p xs i past = ap (find p) (drop_all i xs past)

-- the first number below n that passes
module _ (p : ℕ → Bool) (n : ℕ) where
  number_at : (t : ℕ) → t < n → get_or (range_with_len 0 n) t 0 ≡ t
  number_at t low = get_or-range_with_len 0 n t 0 low ∙ omega arith

  pub find-number_here : (t : ℕ) → t < n → p t ≡ true → Some t ≡ find p (drop t (range_with_len 0 n))
  find-number_here t low found =
      ap Some (sym (number_at t low))
      ∙ sym (find-here p (range_with_len 0 n) t 0 (omega (arith, low, length-range_with_len 0 n)) (ap p (number_at t low) ∙ found))

  pub find-number_later : (t : ℕ) → t < n → p t ≡ false → find p (drop (t + 1) (range_with_len 0 n)) ≡ find p (drop t (range_with_len 0 n))
  find-number_later t low fails =
      find-later p (range_with_len 0 n) t 0 (omega (arith, low, length-range_with_len 0 n)) (ap p (number_at t low) ∙ fails)

  pub find-number_past : (t : ℕ) → n ≤ t → None ≡ find p (drop t (range_with_len 0 n))
  find-number_past t past = sym (find-past p (range_with_len 0 n) t (omega (arith, past, length-range_with_len 0 n)))

-- where the first element fails the test, the rest is searched; where it passes, it is found
find-none_first : {X : Type 0} (b : Bool) (x : X) (rest : Option X) → cond b (Some x) rest ≡ None → b ≡ false
find-none_first true x rest none = cc
find-none_first false x rest none = refl

find-none_rest : {X : Type 0} (b : Bool) (x : X) (rest : Option X) → cond b (Some x) rest ≡ None → rest ≡ None
find-none_rest true x rest none = cc
find-none_rest false x rest none = none

pub find-none : {X : Type 0} (p : X → Bool) (xs : List X) → find p xs ≡ None → All (λ x. p x ≡ false) xs
find-none p [] none k d low = absurd (omega arith)
find-none p (x ∷ xs) none zero d low = find-none_first (p x) x (find p xs) none
find-none p (x ∷ xs) none (suc k) d low = find-none p xs (find-none_rest (p x) x (find p xs) none) k d (omega arith)

pub find-all : {X : Type 0} (p : X → Bool) (xs : List X) → All (λ x. p x ≡ false) xs → find p xs ≡ None
find-all p [] all = refl
find-all p (x ∷ xs) all =
    ap (λ v. cond v (Some x) (find p xs)) (all 0 x (omega arith)) ∙ find-all p xs (λ k d low. all (suc k) d (omega arith))

-- the greater of two numbers, as `Ord::max` has it
pub ord_max-nat : (a b : ℕ) → ord_max nat_cmp a b ≡ max a b
ord_max-nat a b = grind (arith, nat_tests)

-- ---- the greatest value over the rest of a list

pub greatest-next : (f : ℕ → ℕ) (xs : List ℕ) (i d m : ℕ) → i < length xs → max (max m (f (get_or xs i d))) (greatest f (drop (i + 1) xs)) ≡ max m (greatest f (drop i xs))
unfolding greatest
greatest-next f xs i d m low =
    let next = ap (greatest f) (drop-cons xs i d low) in
    omega (arith, next, ap (λ n. greatest f (drop n xs)) (add-one i))

pub greatest-past : (f : ℕ → ℕ) (xs : List ℕ) (i m : ℕ) → length xs ≤ i → max m (greatest f (drop i xs)) ≡ m
unfolding greatest
greatest-past f xs i m past = omega (arith, ap (greatest f) (drop_all i xs past))

-- what the test of having nothing says, in the form that `Option::is_none` has
pub none_from_test : {X : Type 0} (o : Option X) (b : Bool) → not b ≡ is_some o → b ≡ true → o ≡ None
none_from_test None b test true_ = refl
none_from_test (Some x) b test true_ = let same : not b ≡ false = ap not true_ in cc

pub test_from_none : {X : Type 0} (o : Option X) (b : Bool) → not b ≡ is_some o → o ≡ None → b ≡ true
test_from_none o true test none = refl
test_from_none o false test none = let same = test ∙ ap is_some none in cc

-- ---- stations

module _ (g : Parts) (s : State) (c : IsConsistent g s) where
  -- a station whose log isn't full, and whose input places have tokens, can fire
  pub can_fire : (t : ℕ) → t < stations g → length (log s t) ≢ jobs g → first_empty g s t ≡ None → CanFire g s t
  can_fire t there more none = record {
    exists = there;
    more = omega (arith, c.few_dates t there, more);
    tokens = λ a listed ends.
        each_input g t
        (λ b. 0 < length (place s b))
        (λ k d low. let filled = eqb-false _ 0 (find-none (is_empty s) (ins g t) none k d low) in omega arith)
        a
        listed
        ends;
  }

  pub is_finished : first_unfinished g s ≡ None → IsFinished g s
  is_finished none t there =
      let all = find-none (is_behind g s) (range_with_len 0 (stations g)) none t 0 (omega (arith, length-range_with_len 0 (stations g))) in
      let at : get_or (range_with_len 0 (stations g)) t 0 ≡ t = get_or-range_with_len 0 (stations g) t 0 there ∙ omega arith in
      let here : ltb (length (log s t)) (jobs g) ≡ false = ap (is_behind g s) (sym at) ∙ all in
      grind (arith, nat_tests, c.few_dates t there, here)

  pub none_is_behind : IsFinished g s → first_unfinished g s ≡ None
  none_is_behind finished =
      find-all (is_behind g s) (range_with_len 0 (stations g)) (λ k d low.
      let there : k < stations g = omega (arith, length-range_with_len 0 (stations g)) in
      let at : get_or (range_with_len 0 (stations g)) k d ≡ k = get_or-range_with_len 0 (stations g) k d there ∙ omega arith in
      ap (is_behind g s) at ∙ le-ltb (length (log s k)) (jobs g) (omega (arith, finished k there)))

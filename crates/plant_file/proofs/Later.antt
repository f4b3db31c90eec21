-- That a later element passes a test, by the place of the first that does.
use Rattle.std.proofs.Common.{◌≡◌, ℕ, zero, suc, ◌+◌, Bool, true, false, not, ◌&&◌, ◌||◌, cond, nat_lt, List, [], ◌∷◌, take, length, refl, sym, ap, ◌∙◌, ◌<◌, ◌≤◌, add-one, arith}
use Rattle.std.proofs.lemmas.Bool.{ltb-true, ltb-false, lt-ltb, le-ltb}
use Rattle.std.specs.List.{list_any, position_or_len}

and_false : (b : Bool) → false ≡ (b && false)
and_false true = refl
and_false false = refl

and_true : (b : Bool) → (b && true) ≡ b
and_true true = refl
and_true false = refl

-- two comparisons that say the same
same_order : (a b c d : ℕ) → (a < b → c < d) → (c < d → a < b) → nat_lt a b ≡ nat_lt c d
same_order a b c d to from =
    by_answer (nat_lt c d) refl
  where
    by_cases : (r : Bool) → nat_lt a b ≡ r → d ≤ c → b ≤ a
    by_cases true is past = let below = to (ltb-true a b is) in omega (arith, past, below)
    by_cases false is past = ltb-false a b is

    not_below : d ≤ c → b ≤ a
    not_below past = by_cases (nat_lt a b) refl past

    by_answer : (r : Bool) → nat_lt c d ≡ r → nat_lt a b ≡ r
    by_answer true is = lt-ltb a b (from (ltb-true c d is))
    by_answer false is = le-ltb a b (not_below (ltb-false c d is))

found_any : {X : Type 0} (p : X → Bool) (xs : List X) → list_any p xs ≡ nat_lt (position_or_len p xs) (length xs)
found_any p [] = refl
found_any p (x ∷ xs) =
    step (p x) (found_any p xs)
  where
    step : (b : Bool) → list_any p xs ≡ nat_lt (position_or_len p xs) (length xs) → (b || list_any p xs) ≡ nat_lt (cond (not b) (1 + position_or_len p xs) 0) (suc (length xs))
    step true after = sym (lt-ltb 0 (suc (length xs)) (omega arith))
    step false after = after ∙ same_order (position_or_len p xs) (length xs) (1 + position_or_len p xs) (suc (length xs)) (λ h. omega (arith, h)) (λ h. omega (arith, h))

later_suc : {X : Type 0} (p : X → Bool) (xs : List X) (i : ℕ) → (list_any p xs && not (list_any p (take (suc i) xs))) ≡ (nat_lt i (position_or_len p xs) && nat_lt (position_or_len p xs) (length xs))
later_suc p [] i = and_false (nat_lt i 0)
later_suc p (x ∷ xs) i =
    step (p x) i (later_suc p xs)
  where
    j : ℕ
    j = position_or_len p xs

    shifted : nat_lt j (length xs) ≡ nat_lt (1 + j) (suc (length xs))
    shifted = same_order j (length xs) (1 + j) (suc (length xs)) (λ h. omega (arith, h)) (λ h. omega (arith, h))

    step : (b : Bool) (i : ℕ) → ((k : ℕ) → (list_any p xs && not (list_any p (take (suc k) xs))) ≡ (nat_lt k j && nat_lt j (length xs))) → ((b || list_any p xs) && not (b || list_any p (take i xs))) ≡ (nat_lt i (cond (not b) (1 + j) 0) && nat_lt (cond (not b) (1 + j) 0) (suc (length xs)))
    step true i after = rw (le-ltb i 0 (omega arith)) refl
    step false zero after =
        and_true (list_any p xs) ∙ found_any p xs ∙ shifted ∙ sym (ap (λ first. first && nat_lt (1 + j) (suc (length xs))) (lt-ltb 0 (1 + j) (omega arith)))
    step false (suc i) after =
        after i
        ∙ ap (λ first. first && nat_lt j (length xs)) (same_order i j (suc i) (1 + j) (λ h. omega (arith, h)) (λ h. omega (arith, h)))
        ∙ ap (λ last. nat_lt (suc i) (1 + j) && last) shifted

pub later_by_position : {X : Type 0} (p : X → Bool) (xs : List X) (i : ℕ) → (list_any p xs && not (list_any p (take (i + 1) xs))) ≡ (nat_lt i (position_or_len p xs) && nat_lt (position_or_len p xs) (length xs))
later_by_position p xs i = rw add-one (later_suc p xs i)

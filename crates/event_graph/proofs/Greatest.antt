-- Lemmas on the greatest value of a function on a list.
use Rattle.std.proofs.Common.{◌≡◌, ℕ, zero, suc, ◌+◌, ◌<◌, ◌≤◌, max, List, [], ◌∷◌, ◌++◌, length, get_or, refl, ap, ◌∙◌, inl, inr, arith}
use Rattle.std.specs.List.{All, range_with_len}
use Rattle.std.proofs.lemmas.Bool.{cases_lt}
use Rattle.std.proofs.lemmas.List.Elements.{All-head, All-tail}
use Rattle.event_graph.specs.GreatestValue.{greatest}
use Rattle.line_base.proofs.RangeLists.{range-more}

-- no value is above it
pub le-greatest : (f : ℕ → ℕ) (xs : List ℕ) → All (λ x. f x ≤ greatest f xs) xs
unfolding greatest
le-greatest f [] k d h = absurd (omega arith)
le-greatest f (x ∷ xs) zero d h = omega arith
le-greatest f (x ∷ xs) (suc k) d h =
    let later : f (get_or xs k d) ≤ greatest f xs = le-greatest f xs k d (omega arith) in omega arith

-- it is at most what each value is at most
pub greatest-le : (f : ℕ → ℕ) (xs : List ℕ) (most : ℕ) → All (λ x. f x ≤ most) xs → greatest f xs ≤ most
unfolding greatest
greatest-le f [] most all = omega arith
greatest-le f (x ∷ xs) most all =
    omega (arith, All-head (λ y. f y ≤ most) x xs all, greatest-le f xs most (All-tail (λ y. f y ≤ most) x xs all))

-- functions that agree on the list have the same
pub greatest-same : (f h : ℕ → ℕ) (xs : List ℕ) → All (λ x. f x ≡ h x) xs → greatest f xs ≡ greatest h xs
unfolding greatest
greatest-same f h [] all = refl
greatest-same f h (x ∷ xs) all =
    ap (λ n. max n (greatest f xs)) (All-head (λ y. f y ≡ h y) x xs all)
    ∙ ap (max (h x)) (greatest-same f h xs (All-tail (λ y. f y ≡ h y) x xs all))

-- on a list that isn't empty it is one of the values
pub greatest-one : (f : ℕ → ℕ) (xs : List ℕ) → 0 < length xs → (k : ℕ) × (k < length xs) × (greatest f xs ≡ f (get_or xs k 0))
unfolding greatest
greatest-one f [] some = absurd (omega arith)
greatest-one f (x ∷ []) some = (0, omega arith, omega arith)
greatest-one f (x ∷ (y ∷ ys)) some =
    let rest = greatest-one f (y ∷ ys) (omega arith) in
    elim (cases_lt (f x) (greatest f (y ∷ ys))) [
      | inl later ↦ (suc rest.0, omega (arith, rest.1), omega (arith, rest.2))
      | inr first ↦ (0, omega arith, omega arith)
    ]

-- on a list with one element more
pub greatest-push : (f : ℕ → ℕ) (xs : List ℕ) (y : ℕ) → greatest f (xs ++ y ∷ []) ≡ max (greatest f xs) (f y)
unfolding greatest
greatest-push f [] y = omega arith
greatest-push f (x ∷ xs) y = let rest = greatest-push f xs y in omega arith

-- on the numbers below n + 1
pub greatest-range : (f : ℕ → ℕ) (n : ℕ) → greatest f (range_with_len 0 (n + 1)) ≡ max (greatest f (range_with_len 0 n)) (f n)
greatest-range f n = ap (greatest f) (range-more n) ∙ greatest-push f (range_with_len 0 n) n

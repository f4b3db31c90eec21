-- The greatest value over a list of dates.
use Rattle.std.proofs.Common.{◌≡◌, ℕ, zero, suc, ◌+◌, ◌<◌, max, List, [], ◌∷◌, ◌++◌, length, get_or, map, refl, ap, ◌∙◌, arith}
use Rattle.std.specs.Option.{unwrap_or}
use Rattle.std.specs.List.{range_with_len, fold, reduce}
use Rattle.std.proofs.lemmas.List.FromFn.{fill_by_all}
use Rattle.event_graph.specs.GreatestValue.{greatest}

-- the greatest element, as it is picked from left to right
greatest-picked : (x : ℕ) (xs : List ℕ) → fold max x xs ≡ max x (greatest (λ d. d) xs)
unfolding greatest
greatest-picked x [] = omega arith
greatest-picked x (y ∷ ys) = greatest-picked (max x y) ys ∙ omega arith

pub greatest-reduce : (xs : List ℕ) → unwrap_or (reduce max xs) 0 ≡ greatest (λ d. d) xs
unfolding greatest
greatest-reduce [] = refl
greatest-reduce (x ∷ xs) = greatest-picked x xs

greatest-shifted : (f : ℕ → ℕ) (a n : ℕ) → greatest (λ d. d) (map (λ k. f (k + 1)) (range_with_len a n)) ≡ greatest f (range_with_len (a + 1) n)
unfolding greatest
greatest-shifted f a zero = refl
greatest-shifted f a (suc n) = ap (max (f (a + 1))) (greatest-shifted f (a + 1) n)

-- the greatest of the dates of a list is that over the jobs
pub greatest-row : (f : ℕ → ℕ) (h : ℕ) (row : List ℕ) → length row ≡ h → ((k : ℕ) → k < h → get_or row k 0 ≡ f (k + 1)) → greatest (λ d. d) row ≡ greatest f (range_with_len 1 h)
greatest-row f h row long dates =
    ap (greatest (λ d. d)) (fill_by_all (λ k. f (k + 1)) row h 0 long dates) ∙ greatest-shifted f 0 h

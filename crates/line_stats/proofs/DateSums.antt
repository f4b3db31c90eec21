-- The sum of a station's dates, and of the stations before.
use Rattle.std.proofs.Common.{◌≡◌, ℕ, zero, suc, ◌+◌, ◌*◌, ◌<◌, ◌≤◌, List, length, get_or, refl, sym, ap, ◌∙◌, arith, sum}
use Rattle.std.specs.List.{sum_by, range_with_len}
use Rattle.std.proofs.lemmas.List.FromFn.{fill_by_all, length-range_with_len}
use Rattle.std.proofs.lemmas.List.Sums.{sum_by_push, sum_by-cons, sum-map, sum_by-le}
use Rattle.line_stats.proofs.CountsOfDates.{range-last}
use Rattle.line_stats.proofs.SameCounts.{All-numbers}

-- one number more
pub sum_by-range-more : (f : ℕ → ℕ) (n : ℕ) → sum_by f (range_with_len 0 (n + 1)) ≡ sum_by f (range_with_len 0 n) + f n
sum_by-range-more f n =
    let e : n + 1 ≡ suc n = omega arith in
    let at : 0 + n ≡ n = omega arith in
    ap (λ m. sum_by f (range_with_len 0 m)) e ∙ ap (sum_by f) (range-last 0 n) ∙ sum_by_push f (range_with_len 0 n) (0 + n) ∙ ap (λ m. sum_by f (range_with_len 0 n) + f m) at

-- counted from one further on
sum_by-shifted : (f : ℕ → ℕ) (a n : ℕ) → sum_by (λ k. f (k + 1)) (range_with_len a n) ≡ sum_by f (range_with_len (a + 1) n)
sum_by-shifted f a zero = refl
sum_by-shifted f a (suc n) =
    sum_by-cons (λ k. f (k + 1)) a (range_with_len (a + 1) n) ∙ ap (λ m. f (a + 1) + m) (sum_by-shifted f (a + 1) n) ∙ sym (sum_by-cons f (a + 1) (range_with_len (a + 1 + 1) n))

-- the sum of the dates of a list is that over the jobs
pub sum-row : (f : ℕ → ℕ) (h : ℕ) (row : List ℕ) → length row ≡ h → ((k : ℕ) → k < h → get_or row k 0 ≡ f (k + 1)) → sum row ≡ sum_by f (range_with_len 1 h)
sum-row f h row long dates =
    ap sum (fill_by_all (λ k. f (k + 1)) row h 0 long dates) ∙ sum-map (λ k. f (k + 1)) (range_with_len 0 h) ∙ sum_by-shifted f 0 h

-- and no more than the latest date for each of them
pub sum-row-small : (f : ℕ → ℕ) (h latest : ℕ) → ((n : ℕ) → f n ≤ latest) → sum_by f (range_with_len 1 h) ≤ h * latest
sum-row-small f h latest early =
    rw (length-range_with_len 1 h) at (sum_by-le f latest (range_with_len 1 h) (All-numbers _ 1 h (λ n one low. early n)))

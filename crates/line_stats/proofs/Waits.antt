-- The sum of what the jobs waited, one job more.
use Rattle.std.proofs.Common.{◌≡◌, ℕ, suc, ◌+◌, ap, ◌∙◌, arith}
use Rattle.std.specs.List.{sum_by, range_with_len}
use Rattle.std.proofs.lemmas.List.Sums.{sum_by_push}
use Rattle.line_stats.proofs.CountsOfDates.{range-last}

pub sum-more : (f : ℕ → ℕ) (n : ℕ) → sum_by f (range_with_len 1 (n + 1)) ≡ sum_by f (range_with_len 1 n) + f (n + 1)
sum-more f n =
    let e : n + 1 ≡ suc n = omega arith in
    let at : 1 + n ≡ n + 1 = omega arith in
    ap (λ m. sum_by f (range_with_len 1 m)) e ∙ ap (sum_by f) (range-last 1 n) ∙ sum_by_push f (range_with_len 1 n) (1 + n) ∙ ap (λ m. sum_by f (range_with_len 1 n) + f m) at

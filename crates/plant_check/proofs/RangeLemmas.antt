-- Whether all numbers below a bound pass a test, one after the other.
use Rattle.std.proofs.Common.{◌≡◌, ℕ, ◌+◌, ◌<◌, Bool, true, false, [], ◌∷◌, refl, sym, arith}
use Rattle.std.specs.List.{list_all, range_with_len}
use Rattle.std.proofs.lemmas.List.Folds.{list_all-append, list_all_at}
use Rattle.std.proofs.lemmas.List.FromFn.{length-range_with_len, get_or-range_with_len}
use Rattle.line_base.proofs.RangeLists.{range-more}

pub range_all_more : (p : ℕ → Bool) (k : ℕ) → list_all p (range_with_len 0 k) ≡ true → p k ≡ true → list_all p (range_with_len 0 (k + 1)) ≡ true
range_all_more p k before here =
    rw (range-more k, list_all-append p (range_with_len 0 k) (k ∷ []), before, here) refl

pub range_all_not : (p : ℕ → Bool) (n k : ℕ) → k < n → p k ≡ false → false ≡ list_all p (range_with_len 0 n)
range_all_not p n k below here =
    let plain : 0 + k ≡ k = omega arith in
    sym
    (list_all_at p (range_with_len 0 n) k 0 (rw (length-range_with_len 0 n) below)
    (rw (get_or-range_with_len 0 n k 0 below, plain) here))

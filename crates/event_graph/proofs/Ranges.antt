-- The numbers below a bound: which are listed.
use Rattle.std.proofs.Common.{◌≡◌, ℕ, zero, suc, ◌<◌, Bool, true, false, cond, List, [], ◌∷◌, length, get_or, sym, ap, zero-add, ◌∙◌, subst, arith}
use Rattle.std.specs.List.{filter, range_with_len, All, Contains}
use Rattle.std.proofs.lemmas.List.FromFn.{length-range_with_len, get_or-range_with_len}

-- an element that passes a test is kept by the filter
pub Contains-filter : {X : Type 0} (p : X → Bool) (xs : List X) (k : ℕ) (x : X) → k < length xs → get_or xs k x ≡ x → p x ≡ true → Contains (filter p xs) x
Contains-filter p [] k x h e t = absurd (omega arith)
Contains-filter p (y ∷ ys) zero x h e t =
    subst (λ (b : Bool). Contains (cond b (y ∷ filter p ys) (filter p ys)) x) (sym (ap p e ∙ t)) (0, omega arith, e)
Contains-filter {X} p (y ∷ ys) (suc k) x h e t =
    let later : Contains (filter p ys) x = Contains-filter p ys k x (omega arith) e t in
    elim (p y) as (λ b. Contains (cond b (y ∷ filter p ys) (filter p ys)) x) [
      | true ↦ (suc later.0, omega arith, later.2)
      | false ↦ later
    ]

-- a number below n that passes a test is listed among those that pass
pub Contains-filter-range : (p : ℕ → Bool) (n a : ℕ) → a < n → p a ≡ true → Contains (filter p (range_with_len 0 n)) a
Contains-filter-range p n a below passes =
    Contains-filter p (range_with_len 0 n) a a (rw length-range_with_len below) (get_or-range_with_len 0 n a a below ∙ zero-add a) passes

-- each listed number is below n
pub All-range : (n : ℕ) → All (λ a. a < n) (range_with_len 0 n)
All-range n k d h =
    let low : k < n = rw length-range_with_len at h in
    rw (get_or-range_with_len 0 n k d low, zero-add k) low

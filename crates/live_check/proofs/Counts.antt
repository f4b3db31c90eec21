-- Counts over a range of numbers, and what a count of 0 or more than 0 says.
use Rattle.std.proofs.Common.{◌≡◌, ℕ, zero, suc, ◌+◌, ◌<◌, ◌≤◌, Bool, true, false, cond, ◌&&◌, List, [], ◌∷◌, get_or, filter, count_by, refl, sym, ap, ◌∙◌, inl, inr, zero-add, arith}
use Rattle.std.specs.List.{sum_by, range_with_len}
use Rattle.std.proofs.lemmas.Bool.{cases_Bool}
use Rattle.std.proofs.lemmas.List.FromFn.{length-range_with_len, get_or-range_with_len}
use Rattle.std.proofs.lemmas.List.Sums.{sum_by-cons, get_or-le-sum_by}

zero_test : (b : Bool) → cond b 1 0 ≤ 0 → b ≡ false
zero_test true h = absurd (omega (arith, h))
zero_test false h = refl

-- a sum over a range of terms that are two terms each
pub sum_by-range-add : (f g h : ℕ → ℕ) (a n : ℕ) → ((k : ℕ) → a ≤ k → k < a + n → f k ≡ g k + h k) → sum_by f (range_with_len a n) ≡ sum_by g (range_with_len a n) + sum_by h (range_with_len a n)
sum_by-range-add f g h a zero same = refl
sum_by-range-add f g h a (suc n) same =
    let rest = sum_by-range-add f g h (a + 1) n (λ k low high. same k (omega arith) (omega arith)) in
    let first = same a (omega arith) (omega arith) in
    omega (arith, rest, first, sum_by-cons f a (range_with_len (a + 1) n), sum_by-cons g a (range_with_len (a + 1) n), sum_by-cons h a (range_with_len (a + 1) n))

-- two tests that agree on a range count the same there
pub count_by-range-agree : (p q : ℕ → Bool) (a n : ℕ) → ((k : ℕ) → a ≤ k → k < a + n → p k ≡ q k) → count_by p (range_with_len a n) ≡ count_by q (range_with_len a n)
count_by-range-agree p q a zero same = refl
count_by-range-agree p q a (suc n) same =
    let rest = count_by-range-agree p q (a + 1) n (λ k low high. same k (omega arith) (omega arith)) in
    let first = ap {B = ℕ} (λ b. cond b 1 0) (same a (omega arith) (omega arith)) in
    omega (arith, rest, first, sum_by-cons (λ k. cond (p k) 1 0) a (range_with_len (a + 1) n), sum_by-cons (λ k. cond (q k) 1 0) a (range_with_len (a + 1) n))

filter_cons : (p q r : ℕ → Bool) (x : ℕ) (xs : List ℕ) (b : Bool) → count_by p (filter q xs) ≡ count_by r xs → count_by p (cond b (x ∷ filter q xs) (filter q xs)) ≡ cond (b && p x) 1 0 + count_by r xs
filter_cons p q r x xs true rest = omega (arith, rest, sum_by-cons (λ y. cond (p y) 1 0) x (filter q xs))
filter_cons p q r x xs false rest = omega (arith, rest)

-- a count over the elements that pass another test
pub count_by-filter : (p q : ℕ → Bool) (xs : List ℕ) → count_by p (filter q xs) ≡ count_by (λ x. q x && p x) xs
count_by-filter p q [] = refl
count_by-filter p q (x ∷ xs) =
    filter_cons p q (λ y. q y && p y) x xs (q x) (count_by-filter p q xs) ∙ sym (sum_by-cons (λ y. cond (q y && p y) 1 0) x xs)

-- where nothing counts, no number of the range passes
pub none_passes : (p : ℕ → Bool) (n a : ℕ) → count_by p (range_with_len 0 n) ≡ 0 → a < n → p a ≡ false
none_passes p n a none below =
    let term : cond (p (get_or (range_with_len 0 n) a 0)) 1 0 ≤ count_by p (range_with_len 0 n) = get_or-le-sum_by (λ k. cond (p k) 1 0) (range_with_len 0 n) a 0 (omega (arith, length-range_with_len 0 n)) in
    let here : cond (p a) 1 0 ≤ 0 = omega (arith, none, term, ap {B = ℕ} (λ k. cond (p k) 1 0) (get_or-range_with_len 0 n a 0 below ∙ zero-add a)) in
    zero_test (p a) here

-- where something counts, some number of the range passes
pub some_passes : (p : ℕ → Bool) (a n : ℕ) → 0 < count_by p (range_with_len a n) → (k : ℕ) × (k < a + n) × (p k ≡ true)
some_passes p a zero some = absurd (omega (arith, some))
some_passes p a (suc n) some =
    let whole = sum_by-cons (λ k. cond (p k) 1 0) a (range_with_len (a + 1) n) in
    elim (cases_Bool (p a)) [
      | inl passes ↦ (a, omega arith, passes)
      | inr fails ↦
          (let zero_here : cond (p a) 1 0 ≡ 0 = ap {B = ℕ} (λ b. cond b 1 0) fails in
          let later = some_passes p (a + 1) n (omega (arith, whole, zero_here, some)) in
          (later.0, omega (arith, later.1), later.2))
    ]

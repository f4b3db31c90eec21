-- Counting in a list of dates that don't decrease.
use Rattle.std.proofs.Common.{◌≡◌, ℕ, zero, suc, ◌+◌, ◌-◌, ◌<◌, ◌≤◌, Bool, true, false, cond, leb, List, length, get_or, take, refl, sym, ap, ◌∙◌, subst, inl, inr, arith, count_by}
use Rattle.std.specs.List.Sorted.{IsNonDecreasing, IsPartitionPoint}
use Rattle.std.proofs.lemmas.Bool.{cases_lt, le-leb, lt-leb}
use Rattle.std.proofs.lemmas.List.{take_all, length-take}
use Rattle.std.proofs.lemmas.List.Sums.{sum_by-take-le, count_by-le-length, count_by_more_yes, count_by_more_no}

-- where the first k pass, they count k
count-front : (p : ℕ → Bool) (xs : List ℕ) (k : ℕ) → k ≤ length xs → ((j : ℕ) → j < k → p (get_or xs j 0) ≡ true) → count_by p (take k xs) ≡ k
count-front p xs zero few pass = refl
count-front p xs (suc k) few pass =
    let e : k + 1 ≡ suc k = omega arith in
    let rest = count-front p xs k (omega arith) (λ j below. pass j (omega arith)) in
    let more = subst (λ n. count_by p (take n xs) ≡ count_by p (take k xs) + 1) e (count_by_more_yes p xs k 0 (omega arith) (pass k (omega arith))) in
    omega (arith, rest, more)

-- where none from k on pass, all count what the first k do
count-back : (p : ℕ → Bool) (xs : List ℕ) (k d : ℕ) → k + d ≤ length xs → ((j : ℕ) → k ≤ j → j < length xs → p (get_or xs j 0) ≡ false) → count_by p (take (k + d) xs) ≡ count_by p (take k xs)
count-back p xs k zero few fail = let e : k + 0 ≡ k = omega arith in ap (λ n. count_by p (take n xs)) e
count-back p xs k (suc d) few fail =
    let e : k + d + 1 ≡ k + suc d = omega arith in
    let more = subst (λ n. count_by p (take n xs) ≡ count_by p (take (k + d) xs)) e (count_by_more_no p xs (k + d) 0 (omega arith) (fail (k + d) (omega arith) (omega arith))) in
    more ∙ count-back p xs k d (omega arith) fail

count-front_only : (p : ℕ → Bool) (xs : List ℕ) (k : ℕ) → k ≤ length xs → ((j : ℕ) → k ≤ j → j < length xs → p (get_or xs j 0) ≡ false) → count_by p xs ≡ count_by p (take k xs)
count-front_only p xs k few fail =
    let e : k + (length xs - k) ≡ length xs = omega arith in
    let whole = take_all (length xs) xs (omega arith) in
    ap (count_by p) (sym whole) ∙ ap (λ n. count_by p (take n xs)) (sym e) ∙ count-back p xs k (length xs - k) (omega arith) fail

-- what a halving search finds is the count
pub count-point : (p : ℕ → Bool) (xs : List ℕ) (i : ℕ) → i ≤ length xs → IsPartitionPoint (λ y. p y ≡ true) (λ y. p y ≡ false) xs i → count_by p xs ≡ i
count-point p xs i few point =
    count-front_only p xs i few (λ j low high. point.1 j 0 low high) ∙ count-front p xs i few (λ j below. point.0 j 0 (omega arith) below)

-- a date of at most v counts, with those before
pub count-above : (xs : List ℕ) (k v : ℕ) → IsNonDecreasing xs → k < length xs → get_or xs k 0 ≤ v → k < count_by (λ d. leb d v) xs
count-above xs k v order below here =
    let p = λ (d : ℕ). leb d v in
    let front = count-front p xs (k + 1) (omega arith) (λ j before. let up = order j k 0 (omega arith) below in le-leb (get_or xs j 0) v (omega arith)) in
    omega (arith, front, sum_by-take-le (λ d. cond (p d) 1 0) xs (k + 1))

-- a date above v doesn't count, nor those after
pub count-le : (xs : List ℕ) (k v : ℕ) → IsNonDecreasing xs → k < length xs → v < get_or xs k 0 → count_by (λ d. leb d v) xs ≤ k
count-le xs k v order below here =
    let p = λ (d : ℕ). leb d v in
    let back = count-front_only p xs k (omega arith) (λ j low high. let up = order k j 0 low high in lt-leb (get_or xs j 0) v (omega arith)) in
    omega (arith, back, count_by-le-length p (take k xs), length-take k xs)

-- what counts is of at most v
pub counted-le : (xs : List ℕ) (k v : ℕ) → IsNonDecreasing xs → k < count_by (λ d. leb d v) xs → get_or xs k 0 ≤ v
counted-le xs k v order counts =
    let long = count_by-le-length (λ d. leb d v) xs in
    elim (cases_lt v (get_or xs k 0)) [
      | inl late ↦ absurd (omega (arith, count-le xs k v order (omega arith) late))
      | inr early ↦ early
    ]

-- The greatest of values that are looked at one after the other, and the first number that has it.
use Rattle.std.proofs.Common.{◌≡◌, ℕ, zero, suc, ◌+◌, ◌<◌, ◌≤◌, Bool, true, false, cond, refl, sym, ap, ◌∙◌, subst, inl, inr, arith}
use Rattle.std.specs.Prelude.{find, unwrap_or, Some, ◌==◌}
use Rattle.std.specs.List.{range_with_len}
use Rattle.std.proofs.lemmas.Bool.{cases_lt, eq-eqb, ne_eqb}
use Rattle.event_graph.specs.GreatestValue.{greatest}
use Rattle.event_graph.proofs.Greatest.{greatest-le}
use Rattle.line_stats.proofs.SameCounts.{All-numbers}
use Rattle.line_summary.specs.Waits.{first_of}
use Rattle.line_stats.proofs.StandingParts.{at-range}

-- what a search through numbers finds
pub find-range : (p : ℕ → Bool) (n a k : ℕ) → a ≤ k → k < a + n → p k ≡ true → ((j : ℕ) → a ≤ j → j < k → p j ≡ false) → find p (range_with_len a n) ≡ Some k
find-range p zero a k low high passes fails = absurd (omega arith)
find-range p (suc n) a k low high passes fails =
    let rest = find p (range_with_len (a + 1) n) in
    elim (cases_lt a k) [
      | inl later ↦
          ap (λ b. cond b (Some a) rest) (fails a (omega arith) later) ∙ find-range p n (a + 1) k (omega arith) (omega arith) passes (λ j from to. fails j (omega arith) to)
      | inr here ↦
          let same : k ≡ a = omega arith in
          ap (λ b. cond b (Some a) rest) (subst (λ m. p m ≡ true) same passes) ∙ ap Some (sym same)
    ]

pub first_of-range : (p : ℕ → Bool) (n a k : ℕ) → a ≤ k → k < a + n → p k ≡ true → ((j : ℕ) → a ≤ j → j < k → p j ≡ false) → k ≡ first_of p (range_with_len a n)
first_of-range p n a k low high passes fails = sym (ap (λ o. unwrap_or o 0) (find-range p n a k low high passes fails))

-- the greatest on a range is at most what no value is above
pub greatest-range-le : (f : ℕ → ℕ) (a n most : ℕ) → ((k : ℕ) → a ≤ k → k < a + n → f k ≤ most) → greatest f (range_with_len a n) ≤ most
greatest-range-le f a n most all = greatest-le f (range_with_len a n) most (All-numbers (λ k. f k ≤ most) a n all)

-- the first `count` values were looked at: this is the greatest, and the first that has it
pub record IsLongest (f : ℕ → ℕ) (count most job : ℕ) : Type 0 where
  pub from_one : 1 ≤ job
  pub less_before : (n : ℕ) → 1 ≤ n → n < job → f n < most
  pub none_above : (n : ℕ) → 1 ≤ n → n ≤ count → f n ≤ most
  pub here : 1 ≤ count → f job ≡ most
  pub inside : 1 ≤ count → job ≤ count
  pub begins : count ≡ 0 → (job ≡ 1) × (most ≡ 0)

pub IsLongest-begins : (f : ℕ → ℕ) → IsLongest f 0 0 1
IsLongest-begins f = record {
  from_one = omega arith;
  less_before = λ n some few. absurd (omega arith);
  none_above = λ n some few. absurd (omega arith);
  here = λ some. absurd (omega arith);
  inside = λ some. absurd (omega arith);
  begins = λ none. (refl, refl);
}

pub IsLongest-longer : (f : ℕ → ℕ) (count most job wait : ℕ) → wait ≡ f (count + 1) → most < wait → IsLongest f count most job → IsLongest f (count + 1) wait (count + 1)
IsLongest-longer f count most job wait is more so_far = record {
  from_one = omega arith;
  less_before = λ n some few. (let h = so_far.none_above n some (omega arith) in omega arith);
  none_above = λ n some few. elim (cases_lt n (count + 1)) [
    | inl before ↦ (let h = so_far.none_above n some (omega arith) in omega arith)
    | inr last ↦
        let same : n ≡ count + 1 = omega arith in
        omega (arith, ap f same)
  ];
  here = λ some. sym is;
  inside = λ some. omega arith;
  begins = λ none. absurd (omega arith);
}

pub IsLongest-stays : (f : ℕ → ℕ) (count most job wait : ℕ) → wait ≡ f (count + 1) → wait ≤ most → IsLongest f count most job → IsLongest f (count + 1) most job
IsLongest-stays f count most job wait is less so_far = record {
  from_one = so_far.from_one;
  less_before = so_far.less_before;
  none_above = λ n some few. elim (cases_lt n (count + 1)) [
    | inl before ↦ so_far.none_above n some (omega arith)
    | inr last ↦
        let same : n ≡ count + 1 = omega arith in
        omega (arith, ap f same)
  ];
  here = λ some. elim (cases_lt 0 count) [
    | inl before ↦ so_far.here before
    | inr first ↦
        let start = so_far.begins (omega arith) in
        let same : job ≡ count + 1 = omega arith in
        omega (arith, ap f same)
  ];
  inside = λ some. elim (cases_lt 0 count) [
    | inl before ↦ (let h = so_far.inside before in omega arith)
    | inr first ↦ (let start = so_far.begins (omega arith) in omega arith)
  ];
  begins = λ none. absurd (omega arith);
}

-- after all of them
pub IsLongest-most : (f : ℕ → ℕ) (count most job : ℕ) → 1 ≤ count → IsLongest f count most job → most ≡ greatest f (range_with_len 1 count)
IsLongest-most f count most job some all =
    let up = greatest-range-le f 1 count most (λ k low high. all.none_above k low (omega arith)) in
    let at = at-range f 1 count job all.from_one (let h = all.inside some in omega arith) in
    let here = all.here some in
    omega arith

pub IsLongest-job : (f : ℕ → ℕ) (count most job greatest_is : ℕ) → 1 ≤ count → most ≡ greatest_is → IsLongest f count most job → job ≡ first_of (λ n. f n == greatest_is) (range_with_len 1 count)
IsLongest-job f count most job greatest_is some is all =
    first_of-range (λ n. f n == greatest_is) count 1 job all.from_one (let h = all.inside some in omega arith) (eq-eqb (f job) greatest_is (all.here some ∙ is))
    (λ j low before. ne_eqb (f j) greatest_is (let h = all.less_before j low before in omega arith))

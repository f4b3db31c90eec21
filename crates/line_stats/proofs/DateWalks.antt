-- The walk over the dates of two stations that finds the most parts between them.
use Rattle.std.proofs.Common.{◌≡◌, ℕ, zero, suc, ◌+◌, ◌-◌, ◌<◌, ◌≤◌, cond, leb, max, List, length, get_or, ap, ◌∙◌, subst, inl, inr, arith}
use Rattle.std.specs.List.Sorted.{IsNonDecreasing}
use Rattle.std.proofs.lemmas.Bool.{cases_lt}
use Rattle.std.proofs.lemmas.Bool.Decides.{nat_tests}
use Rattle.std.proofs.lemmas.List.Sums.{sum_by-le-sum_by, count_by-le-length}
use Rattle.line_stats.specs.Between.{dates_until, between}
use Rattle.line_stats.proofs.DateLists.{count-above, counted-le}

test-later : (a v w : ℕ) → v ≤ w → cond (leb a v) 1 0 ≤ cond (leb a w) 1 0
test-later a v w le = grind (arith, nat_tests)

-- no fewer at a later date
pub dates_until-later : (dates : List ℕ) (v w : ℕ) → v ≤ w → dates_until dates v ≤ dates_until dates w
dates_until-later dates v w le =
    sum_by-le-sum_by (λ d. cond (leb d v) 1 0) (λ d. cond (leb d w) 1 0) dates (λ d. test-later d v w le)

-- the walk has passed the first dates of those that entered: this many had left by the last of them, and this is the
-- most so far
pub record WalksDates (entered left : List ℕ) (start most gone before : ℕ) : Type 0 where
  pub known : (k : ℕ) → before ≤ k → k < length entered → gone ≤ dates_until left (get_or entered k 0)
  pub first : between entered left start 0 ≤ most
  pub passed : (k : ℕ) → k < before → start + k + 1 - dates_until left (get_or entered k 0) ≤ most
  pub small : most ≤ start + length entered
  pub least : (bound : ℕ) → ((v : ℕ) → between entered left start v ≤ bound) → most ≤ bound

pub WalksDates-begins : (entered left : List ℕ) (start most : ℕ) → most ≡ between entered left start 0 → WalksDates entered left start most 0 0
WalksDates-begins entered left start most is = record {
  known = λ k low inside. omega arith;
  first = omega arith;
  passed = λ k below. absurd (omega arith);
  small = omega (arith, count_by-le-length (λ d. leb d 0) entered);
  least = λ bound all. let h = all 0 in omega arith;
}

pub WalksDates-goes : (entered left : List ℕ) (start most gone before date next : ℕ) → IsNonDecreasing entered → before < length entered → date ≡ get_or entered before 0 → next ≡ dates_until left date → WalksDates entered left start most gone before → WalksDates entered left start (max most (start + before + 1 - next)) next (before + 1)
WalksDates-goes entered left start most gone before date next order inside is left_by walk =
    let next_is : next ≡ dates_until left (get_or entered before 0) = left_by ∙ ap (dates_until left) is in
    record {
      known = λ k low below. let up = order before k 0 (omega arith) below in omega (arith, next_is, dates_until-later left (get_or entered before 0) (get_or entered k 0) up);
      first = let h = walk.first in omega arith;
      passed = λ k below. elim (cases_lt k before) [
        | inl earlier ↦ (let h = walk.passed k earlier in omega arith)
        | inr here ↦
            let same : before ≡ k = omega arith in
            let last : start + before + 1 - dates_until left (get_or entered before 0) ≤ max most (start + before + 1 - next) = omega arith in
            subst (λ j. start + j + 1 - dates_until left (get_or entered j 0) ≤ max most (start + before + 1 - next)) same last
      ];
      small = let h = walk.small in omega arith;
      least = λ bound all.
          let old = walk.least bound all in
          let here = all (get_or entered before 0) in
          let counts = count-above entered before (get_or entered before 0) order inside (omega arith) in
          omega arith;
    }

pub WalksDates-covers : (entered left : List ℕ) (start most gone before : ℕ) → IsNonDecreasing entered → length entered ≤ before → WalksDates entered left start most gone before → (v : ℕ) → between entered left start v ≤ most
WalksDates-covers entered left start most gone before order all walk v = by_count (dates_until entered v) (omega arith)
  where
    by_count : (n : ℕ) → n ≡ dates_until entered v → between entered left start v ≤ most
    by_count zero is =
        let first = walk.first in
        let none = dates_until-later entered 0 v (omega arith) in
        let more = dates_until-later left 0 v (omega arith) in
        omega arith
    by_count (suc k) is =
        let few = count_by-le-length (λ d. leb d v) entered in
        let early = counted-le entered k v order (omega arith) in
        let passed = walk.passed k (omega arith) in
        let more = dates_until-later left (get_or entered k 0) v early in
        omega arith

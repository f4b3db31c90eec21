-- Of how many of the jobs 1 to h a date is at most v.
use Rattle.std.proofs.Common.{◌≡◌, ℕ, zero, suc, ◌+◌, ◌-◌, ◌<◌, ◌≤◌, cond, leb, List, [], ◌∷◌, ◌++◌, length, get_or, map, refl, ap, ◌∙◌, subst, inl, inr, arith, count_by}
use Rattle.std.specs.List.{range_with_len}
use Rattle.std.proofs.lemmas.Bool.{cases_lt}
use Rattle.std.proofs.lemmas.Bool.Decides.{nat_tests}
use Rattle.std.proofs.lemmas.List.FromFn.{length-range_with_len, fill_by_all, sum_by-map-range_with_len_more}
use Rattle.std.proofs.lemmas.List.Sums.{sum_by_push, sum_by-le-sum_by, count_by-le-length}

abbrev pub until : ℕ → (ℕ → ℕ) → ℕ → ℕ
until h date v = count_by (λ n. leb (date n) v) (range_with_len 1 h)

-- a range with one number more at its end
pub range-last : (a n : ℕ) → range_with_len a (suc n) ≡ range_with_len a n ++ (a + n) ∷ []
range-last a zero = let e : a ≡ a + 0 = omega arith in ap (λ k. k ∷ []) e
range-last a (suc n) =
    let e : a + 1 + n ≡ a + suc n = omega arith in
    ap (λ xs. a ∷ xs) (range-last (a + 1) n ∙ ap (λ k. range_with_len (a + 1) n ++ k ∷ []) e)

-- one job more
pub until-more : (h : ℕ) (f : ℕ → ℕ) (v : ℕ) → until (suc h) f v ≡ until h f v + cond (leb (f (suc h)) v) 1 0
until-more h f v =
    let e : 1 + h ≡ suc h = omega arith in
    let one = λ (n : ℕ). cond (leb (f n) v) 1 0 in
    ap (count_by (λ n. leb (f n) v)) (range-last 1 h) ∙ sum_by_push one (range_with_len 1 h) (1 + h) ∙ ap (λ n. until h f v + one n) e

test-le : (a b v w : ℕ) → a ≤ b → v ≤ w → cond (leb b v) 1 0 ≤ cond (leb a w) 1 0
test-le a b v w le later = grind (arith, nat_tests)

test-yes : (a v : ℕ) → a ≤ v → ◌≡◌ {A = ℕ} (cond (leb a v) 1 0) 1
test-yes a v le = grind (arith, nat_tests)

test-no : (a v : ℕ) → v < a → ◌≡◌ {A = ℕ} (cond (leb a v) 1 0) 0
test-no a v lt = grind (arith, nat_tests)

test-moved : (a late v : ℕ) → late ≤ v → ◌≡◌ {A = ℕ} (cond (leb (a + late) v) 1 0) (cond (leb a (v - late)) 1 0)
test-moved a late v le = grind (arith, nat_tests)

-- no more than the jobs
pub until-le : (h : ℕ) (f : ℕ → ℕ) (v : ℕ) → until h f v ≤ h
until-le h f v = omega (arith, count_by-le-length (λ n. leb (f n) v) (range_with_len 1 h), length-range_with_len 1 h)

-- no fewer of more jobs
pub until-jobs : (h k : ℕ) (f : ℕ → ℕ) (v : ℕ) → until h f v ≤ until (h + k) f v
until-jobs h zero f v = let e : h + 0 ≡ h = omega arith in rw e (omega arith)
until-jobs h (suc k) f v =
    let e : h + suc k ≡ suc (h + k) = omega arith in
    rw e (omega (arith, until-jobs h k f v, until-more (h + k) f v))

-- no fewer at a later date
pub until-later : (h : ℕ) (f : ℕ → ℕ) (v w : ℕ) → v ≤ w → until h f v ≤ until h f w
until-later h f v w le =
    sum_by-le-sum_by (λ n. cond (leb (f n) v) 1 0) (λ n. cond (leb (f n) w) 1 0) (range_with_len 1 h) (λ n. test-le (f n) (f n) v w (omega arith) le)

-- where the date of each job is no sooner than that of the job m before, no more than m over
shifted : (m : ℕ) (f g : ℕ → ℕ) (v h : ℕ) → ((n : ℕ) → m < n → n ≤ h → f (n - m) ≤ g n) → until h g v ≤ m + until (h - m) f v
shifted m f g v zero later = omega arith
shifted m f g v (suc h) later =
    let rest = shifted m f g v h (λ n above within. later n above (omega arith)) in
    let all = until-more h g v in
    elim (cases_lt m (suc h)) [
      | inl above ↦
          let e : suc h - m ≡ suc (h - m) = omega arith in
          let more = until-more (h - m) f v in
          let here : f (suc (h - m)) ≤ g (suc h) = subst (λ k. f k ≤ g (suc h)) e (later (suc h) above (omega arith)) in
          let one = test-le (f (suc (h - m))) (g (suc h)) v v here (omega arith) in
          rw e (omega (arith, rest, all, more, one))
      | inr past ↦ omega (arith, until-le (suc h) g v)
    ]

pub until-shift : (m h : ℕ) (f g : ℕ → ℕ) (v : ℕ) → ((n : ℕ) → m < n → n ≤ h → f (n - m) ≤ g n) → until h g v ≤ m + until h f v
until-shift m h f g v later =
    elim (cases_lt m h) [
      | inl inside ↦
          let e : h - m + m ≡ h = omega arith in
          let more = subst (λ k. until (h - m) f v ≤ until k f v) e (until-jobs (h - m) m f v) in
          omega (arith, shifted m f g v h later, more)
      | inr past ↦ omega (arith, until-le h g v)
    ]

-- all jobs, where none has a later date
pub until-all : (h : ℕ) (f : ℕ → ℕ) (v : ℕ) → ((n : ℕ) → 1 ≤ n → n ≤ h → f n ≤ v) → until h f v ≡ h
until-all zero f v all = refl
until-all (suc h) f v all =
    let rest = until-all h f v (λ n some few. all n some (omega arith)) in
    omega (arith, rest, until-more h f v, test-yes (f (suc h)) v (all (suc h) (omega arith) (omega arith)))

-- dates that come later by the same time
pub until-moved : (h : ℕ) (f : ℕ → ℕ) (late v : ℕ) → late ≤ v → until h (λ n. f n + late) v ≡ until h f (v - late)
until-moved zero f late v le = refl
until-moved (suc h) f late v le =
    let rest = until-moved h f late v le in
    omega (arith, rest, until-more h (λ n. f n + late) v, until-more h f (v - late), test-moved (f (suc h)) late v le)

pub until-none : (h : ℕ) (f : ℕ → ℕ) (late v : ℕ) → v < late → until h (λ n. f n + late) v ≡ 0
until-none zero f late v lt = refl
until-none (suc h) f late v lt =
    let rest = until-none h f late v lt in
    omega (arith, rest, until-more h (λ n. f n + late) v, test-no (f (suc h) + late) v (omega arith))

-- the same over a list that has the dates
mapped : (h : ℕ) (f : ℕ → ℕ) (v : ℕ) → count_by (λ d. leb d v) (map (λ k. f (k + 1)) (range_with_len 0 h)) ≡ until h f v
mapped zero f v = refl
mapped (suc h) f v =
    let e : h + 1 ≡ suc h = omega arith in
    let one : ℕ → ℕ = λ d. cond (leb d v) 1 0 in
    let more = sum_by-map-range_with_len_more one (λ k. f (k + 1)) 0 h h (omega arith) in
    let more_2 = subst (λ n. count_by (λ d. leb d v) (map (λ k. f (k + 1)) (range_with_len 0 n)) ≡ count_by (λ d. leb d v) (map (λ k. f (k + 1)) (range_with_len 0 h)) + one (f n)) e more in
    omega (arith, more_2, mapped h f v, until-more h f v)

pub until-row : (h : ℕ) (row : List ℕ) (f : ℕ → ℕ) (v : ℕ) → length row ≡ h → ((k : ℕ) → k < h → get_or row k 0 ≡ f (k + 1)) → count_by (λ d. leb d v) row ≡ until h f v
until-row h row f v long dates =
    ap (count_by (λ d. leb d v)) (fill_by_all (λ k. f (k + 1)) row h 0 long dates) ∙ mapped h f v

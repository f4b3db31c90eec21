-- Sums over time. Little's law: how many jobs are done, added up at each date before an end, is the time that is left
-- after each job's date, added up over the jobs.
use Rattle.std.proofs.Common.{◌≡◌, ℕ, zero, suc, ◌+◌, ◌-◌, ◌*◌, ◌<◌, ◌≤◌, cond, leb, List, length, get_or, map, refl, sym, ap, ◌∙◌, arith}
use Rattle.std.specs.List.{sum_by, range_with_len}
use Rattle.std.proofs.lemmas.Bool.Decides.{nat_tests}
use Rattle.std.proofs.lemmas.List.{length-map, get_or-map}
use Rattle.std.proofs.lemmas.List.Sums.{sum_by_push, sum-map, sum_by-le-sum_by}
use Rattle.live_check.proofs.Counts.{sum_by-range-add}
use Rattle.line_graph.proofs.Sizes.{sum_by-same}
use Rattle.line_stats.proofs.CountsOfDates.{until, until-more, until-le, range-last}
use Rattle.line_stats.proofs.DateSums.{sum_by-range-more, sum-row}
use Rattle.line_summary.specs.OverTime.{sum_until}

-- one date more
pub sum_until-more : (end : ℕ) (f : ℕ → ℕ) → sum_until (suc end) f ≡ sum_until end f + f end
unfolding sum_until
sum_until-more end f =
    let e : suc end ≡ end + 1 = omega arith in
    ap (λ n. sum_by f (range_with_len 0 n)) e ∙ sum_by-range-more f end

pub sum_until-none : (f : ℕ → ℕ) → sum_until 0 f ≡ 0
unfolding sum_until
sum_until-none f = refl

-- where a count is the sum of two
pub sum_until-add : (end : ℕ) (f g h : ℕ → ℕ) → ((v : ℕ) → f v ≡ g v + h v) → sum_until end f ≡ sum_until end g + sum_until end h
unfolding sum_until
sum_until-add end f g h same = sum_by-range-add f g h 0 end (λ k low high. same k)

-- where a count is always the same
pub sum_until-same : (end count : ℕ) → sum_until end (λ v. count) ≡ count * end
sum_until-same zero count = sum_until-none (λ v. count) ∙ omega arith
sum_until-same (suc end) count = sum_until-more end (λ v. count) ∙ ap (λ n. n + count) (sum_until-same end count) ∙ by_parts
  where
    by_parts : count * end + count ≡ count * suc end
    by_parts = omega arith

-- where a count is at most another
pub sum_until-le : (end : ℕ) (f g : ℕ → ℕ) → ((v : ℕ) → f v ≤ g v) → sum_until end f ≤ sum_until end g
unfolding sum_until
sum_until-le end f g le = sum_by-le-sum_by f g (range_with_len 0 end) le

-- a job counts from its date on
test-more : (a v : ℕ) → (v - a) + cond (leb a v) 1 0 ≡ suc v - a
test-more a v = grind (arith, nat_tests)

pub sum-job : (end a : ℕ) → sum_until end (λ v. cond (leb a v) 1 0) ≡ end - a
sum-job zero a = sum_until-none (λ v. cond (leb a v) 1 0) ∙ omega arith
sum-job (suc end) a =
    sum_until-more end (λ v. cond (leb a v) 1 0) ∙ ap (λ n. n + cond (leb a end) 1 0) (sum-job end a) ∙ test-more a end

-- one job more
pub sum-jobs-more : (f : ℕ → ℕ) (h : ℕ) → sum_by f (range_with_len 1 (suc h)) ≡ sum_by f (range_with_len 1 h) + f (suc h)
sum-jobs-more f h =
    let e : 1 + h ≡ suc h = omega arith in
    ap (sum_by f) (range-last 1 h) ∙ sum_by_push f (range_with_len 1 h) (1 + h) ∙ ap (λ m. sum_by f (range_with_len 1 h) + f m) e

pub sum-until : (end h : ℕ) (f : ℕ → ℕ) → sum_until end (until h f) ≡ sum_by (λ n. end - f n) (range_with_len 1 h)
sum-until end zero f = sum_until-same end 0 ∙ omega arith
sum-until end (suc h) f =
    let one = λ (v : ℕ). cond (leb (f (suc h)) v) 1 0 in
    let more = sum_until-add end (until (suc h) f) (until h f) one (until-more h f) in
    let job = sum-job end (f (suc h)) in
    let jobs = sum-jobs-more (λ n. end - f n) h in
    omega (arith, more, job, jobs, sum-until end h f)

-- over the dates of a row
sum-row-by : (f date : ℕ → ℕ) (h : ℕ) (row : List ℕ) → length row ≡ h → ((k : ℕ) → k < h → get_or row k 0 ≡ date (k + 1)) → sum_by f row ≡ sum_by (λ n. f (date n)) (range_with_len 1 h)
sum-row-by f date h row long dates =
    sym (sum-map f row)
    ∙ sum-row (λ n. f (date n)) h (map f row) (length-map row f ∙ long)
    (λ k below. get_or-map f row k 0 0 (omega arith) ∙ ap f (dates k below))

pub sum-row-left : (end travel h : ℕ) (date : ℕ → ℕ) (row : List ℕ) → length row ≡ h → ((k : ℕ) → k < h → get_or row k 0 ≡ date (k + 1)) → sum_by (λ d. end - travel - d) row ≡ sum_until end (until h (λ n. date n + travel))
sum-row-left end travel h date row long dates =
    sum-row-by (λ d. end - travel - d) date h row long dates
    ∙ sum_by-same (λ n. end - travel - date n) (λ n. end - (date n + travel)) (range_with_len 1 h) (λ n. omega arith)
    ∙ sym (sum-until end h (λ n. date n + travel))

pub sum-row-done : (end h : ℕ) (date : ℕ → ℕ) (row : List ℕ) → length row ≡ h → ((k : ℕ) → k < h → get_or row k 0 ≡ date (k + 1)) → sum_by (λ d. end - 0 - d) row ≡ sum_until end (until h date)
sum-row-done end h date row long dates =
    sum-row-by (λ d. end - 0 - d) date h row long dates
    ∙ sum_by-same (λ n. end - 0 - date n) (λ n. end - date n) (range_with_len 1 h) (λ n. omega arith)
    ∙ sym (sum-until end h date)

-- no job is counted at more dates than there are
pub sum-until-small : (end h : ℕ) (f : ℕ → ℕ) → sum_until end (until h f) ≤ h * end
sum-until-small end h f =
    omega (arith, sum_until-le end (until h f) (λ v. h) (until-le h f), sum_until-same end h)

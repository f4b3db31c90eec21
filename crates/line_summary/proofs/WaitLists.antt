-- The sorted waits, and what they say of a share of the jobs.
use Rattle.std.proofs.Common.{◌≡◌, ℕ, ◌+◌, ◌-◌, ◌*◌, ◌<◌, ◌≤◌, Bool, cond, leb, List, [], ◌∷◌, length, get_or, map, refl, sym, ap, ◌∙◌, inl, inr, arith, count_by}
use Rattle.std.specs.Prelude.{nat_le, ◌==◌, IsPermutation}
use Rattle.std.specs.List.{sum_by}
use Rattle.std.proofs.lemmas.Bool.{cases_lt, le-leb, lt-leb}
use Rattle.std.proofs.Math.Nat.{mul-le-mul_right}
use Rattle.std.proofs.lemmas.List.Sums.{sum_by-cons}
use Rattle.std.proofs.lemmas.List.Sorted.{sum_by-IsPermutation, length_permutation}
use Rattle.std.proofs.lemmas.List.FromFn.{length-map-range_with_len}
use Rattle.line_base.specs.declared.event.Parts.{Parts}
use Rattle.event_graph.specs.Network.{jobs, stations}
use Rattle.event_graph.specs.Table.{Table, date_in}
use Rattle.event_graph.specs.GreatestValue.{greatest}
use Rattle.line_core.specs.Run.{Dates}
use Rattle.line_stats.specs.Between.{dates_until}
use Rattle.line_stats.specs.Counts.{job_numbers}
use Rattle.line_stats.proofs.CountsOfDates.{until-all}
use Rattle.line_stats.proofs.RisingDates.{date-row}
use Rattle.line_summary.specs.Waits.{wait, waits, most_wait, within, percentile, at_once}
use Rattle.line_summary.proofs.Longest.{first_of-range}
use Rattle.line_stats.proofs.StandingParts.{at-range}

-- a sum over what a function gives
sum_by-map : (f : ℕ → ℕ) (g : ℕ → ℕ) (xs : List ℕ) → sum_by f (map g xs) ≡ sum_by (λ x. f (g x)) xs
sum_by-map f g [] = refl
sum_by-map f g (x ∷ xs) =
    sum_by-cons f (g x) (map g xs) ∙ ap (λ n. f (g x) + n) (sum_by-map f g xs) ∙ sym (sum_by-cons (λ y. f (g y)) x xs)

pub count_by-waits : (g : Parts) (x : Table) (p : ℕ → Bool) → count_by p (waits g x) ≡ count_by (λ n. p (wait g x n)) (job_numbers g)
count_by-waits g x p = sum_by-map (λ d. cond (p d) 1 0) (wait g x) (job_numbers g)

-- the sorted waits count as the jobs do
pub within-sorted : (g : Parts) (x : Table) (sorted : List ℕ) (v : ℕ) → IsPermutation (waits g x) sorted → dates_until sorted v ≡ within g x v
unfolding within
within-sorted g x sorted v same =
    sum_by-IsPermutation (λ d. cond (leb d v) 1 0) (waits g x) sorted same ∙ count_by-waits g x (λ d. leb d v)

within-most : (g : Parts) (x : Table) → within g x (most_wait g x) ≡ jobs g
unfolding within most_wait
within-most g x =
    until-all (jobs g) (wait g x) (greatest (wait g x) (job_numbers g)) (λ n some few. at-range (wait g x) 1 (jobs g) n some (omega arith))

-- the least number that enough jobs don't exceed
pub percentile-is : (g : Parts) (x : Table) (percent v : ℕ) → percent ≤ 100 → percent * jobs g ≤ 100 * within g x v → ((w : ℕ) → w < v → 100 * within g x w < percent * jobs g) → v ≡ percentile g x percent
unfolding percentile
percentile-is g x percent v small enough least =
    let test = λ (most : ℕ). nat_le (percent * jobs g) (100 * within g x most) in
    let high : v < 0 + (most_wait g x + 1) =
    elim (cases_lt (most_wait g x) v) [
      | inl above ↦
          let all = least (most_wait g x) above in
          absurd (omega (arith, all, within-most g x, mul-le-mul_right (jobs g) small))
      | inr below ↦ omega arith
    ] in
    first_of-range test (most_wait g x + 1) 0 v (omega arith) high (le-leb (percent * jobs g) (100 * within g x v) enough) (λ w low before. lt-leb (percent * jobs g) (100 * within g x w) (least w before))

pub zeros-sorted : (g : Parts) (x : Table) (sorted : List ℕ) → IsPermutation (waits g x) sorted → count_by (λ d. d == 0) sorted ≡ at_once g x
unfolding at_once
zeros-sorted g x sorted same =
    sum_by-IsPermutation (λ d. cond (d == 0) 1 0) (waits g x) sorted same ∙ count_by-waits g x (λ d. d == 0)

pub length-waits : (g : Parts) (x : Table) → length (waits g x) ≡ jobs g
length-waits g x = length-map-range_with_len (wait g x) 1 (jobs g)

pub length-sorted : (g : Parts) (x : Table) (sorted : List ℕ) → IsPermutation (waits g x) sorted → length sorted ≡ jobs g
length-sorted g x sorted same = length_permutation (waits g x) sorted same ∙ length-waits g x

-- what was found in the sorted waits
pub percentile-sorted : (g : Parts) (x : Table) (sorted : List ℕ) (percent v : ℕ) → IsPermutation (waits g x) sorted → percent ≤ 100 → percent * length sorted ≤ 100 * dates_until sorted v → ((w : ℕ) → w < v → 100 * dates_until sorted w < percent * length sorted) → v ≡ percentile g x percent
percentile-sorted g x sorted percent v same small enough least =
    let long = ap (λ n. percent * n) (length-sorted g x sorted same) in
    percentile-is g x percent v small (omega (arith, enough, long, within-sorted g x sorted v same))
    (λ w below. omega (arith, least w below, long, within-sorted g x sorted w same))

-- the wait of a job, read in the lists of the last station and of the feed
pub wait-read : (d : Dates) (k count w : ℕ) (delivered demanded : List ℕ) → count ≡ stations d.graph → delivered ≡ get_or d.rows (count - 1) [] → demanded ≡ get_or d.rows 0 [] → w ≡ get_or delivered k 0 - get_or demanded k 0 → w ≡ wait d.graph (date_in d.rows) (k + 1)
wait-read d k count w delivered demanded count_is delivered_is demanded_is is =
    let last = ap (λ n. get_or (get_or d.rows (n - 1) []) k 0) count_is in
    let late = ap (λ row. get_or row k 0) delivered_is ∙ last ∙ sym (date-row d (stations d.graph - 1) k) in
    let soon = ap (λ row. get_or row k 0) demanded_is ∙ sym (date-row d 0 k) in
    omega (arith, is, late, soon)

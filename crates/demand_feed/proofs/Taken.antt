-- How the numbers of the jobs grow with each record that is read.
use Rattle.std.proofs.Common.{add-zero, ◌≡◌, ◌∙◌, ◌≤◌, ◌+◌, ◌++◌, ℕ, List, [], ◌∷◌, Some, None, Err, Bool, true, false, not, map, length, refl, sym, ap, arith}
use Rattle.std.specs.List.{concat, enumerate_from, filter, find}
use Rattle.std.proofs.lemmas.List.{append-nil, length-append, length-map, map-append}
use Rattle.std.proofs.lemmas.List.Elements.{filter-append}
use Rattle.std.proofs.lemmas.List.Folds.{concat-append, find-append}
use Rattle.demand_feed.specs.Records.{Record}
use Rattle.demand_feed.specs.Rows.{HoldsRows, NumberedRecord, first_bad, is_header, jobs, lacks_number, numbers_of, rows_of}

enumerate_from-append : (n : ℕ) (xs ys : List Record) → enumerate_from n (xs ++ ys) ≡ enumerate_from n xs ++ enumerate_from (n + length xs) ys
enumerate_from-append n [] ys = rw (add-zero n) refl
enumerate_from-append n (x ∷ xs) ys =
    let next : n + 1 + length xs ≡ n + length (x ∷ xs) = omega arith in
    ap (λ (rest : List NumberedRecord). (n, x) ∷ rest) (enumerate_from-append (n + 1) xs ys ∙ rw next refl)

-- the jobs among records that stand behind some number of others
unfoldable later_jobs : List ℕ → ℕ → List Record → List NumberedRecord
later_jobs used count rows = filter (λ row. not (is_header used row)) (enumerate_from (1 + count) rows)

jobs-append : (used : List ℕ) (xs ys : List Record) → jobs used (xs ++ ys) ≡ jobs used xs ++ later_jobs used (length xs) ys
unfolding jobs later_jobs
jobs-append used xs ys =
    rw (enumerate_from-append 1 xs ys) (filter-append (λ row. not (is_header used row)) (enumerate_from 1 xs) (enumerate_from (1 + length xs) ys))

later_jobs-header : (used : List ℕ) (count : ℕ) (row : Record) → is_header used (1 + count, row) ≡ true → later_jobs used count (row ∷ []) ≡ []
unfolding later_jobs
later_jobs-header used count row h = rw h refl

later_jobs-job : (used : List ℕ) (count : ℕ) (row : Record) (rows : List Record) → is_header used (1 + count, row) ≡ false
    → (rest : List NumberedRecord) × (later_jobs used count (row ∷ rows) ≡ (1 + count, row) ∷ rest)
unfolding later_jobs
later_jobs-job used count row rows h =
    (filter (λ next. not (is_header used next)) (enumerate_from (1 + count + 1) rows), rw h refl)

later_jobs-one : (used : List ℕ) (count : ℕ) (row : Record) → is_header used (1 + count, row) ≡ false
    → later_jobs used count (row ∷ []) ≡ (1 + count, row) ∷ []
unfolding later_jobs
later_jobs-one used count row h = rw h refl

-- a record that lacks no number
abbrev pub is_lacking : List ℕ → ℕ → NumberedRecord → Bool
is_lacking used most row = lacks_number used most row.1

-- the rows of numbers of the jobs among some records
abbrev good_rows : List ℕ → ℕ → List Record → List (List ℕ)
good_rows used most rows = map (λ row. numbers_of used most row.1) (jobs used rows)

-- these numbers and this count are of the jobs among these records, of which none is bad
pub record Taken (used : List ℕ) (most : ℕ) (rows : List Record) (numbers : List ℕ) (count : ℕ) : Type 0 where
  pub whole : find (is_lacking used most) (jobs used rows) ≡ None
  pub joined : numbers ≡ concat (good_rows used most rows)
  pub counted : count ≡ length (jobs used rows)
  pub few : count ≤ length rows

pub Taken-none : (used : List ℕ) (most : ℕ) → Taken used most [] [] 0
unfolding jobs
Taken-none used most = record { whole = refl; joined = refl; counted = refl; few = omega arith }

-- a header adds nothing
pub Taken-header : (used : List ℕ) (most : ℕ) (rows : List Record) (numbers : List ℕ) (count : ℕ) (row : Record)
    → is_header used (1 + length rows, row) ≡ true → Taken used most rows numbers count → Taken used most (rows ++ row ∷ []) numbers count
Taken-header used most rows numbers count row h taken =
    let same : jobs used (rows ++ row ∷ []) ≡ jobs used rows = jobs-append used rows (row ∷ []) ∙ rw (later_jobs-header used (length rows) row h) (append-nil _) in
    record { whole = rw same taken.whole; joined = rw same taken.joined; counted = rw same taken.counted; few = omega (arith, length-append rows (row ∷ []), taken.few) }

-- a job adds its numbers
pub Taken-job : (used : List ℕ) (most : ℕ) (rows : List Record) (numbers : List ℕ) (count : ℕ) (row : Record)
    → is_header used (1 + length rows, row) ≡ false → lacks_number used most row ≡ false
    → Taken used most rows numbers count → Taken used most (rows ++ row ∷ []) (numbers ++ numbers_of used most row) (count + 1)
Taken-job used most rows numbers count row h good taken =
    let more : jobs used (rows ++ row ∷ []) ≡ jobs used rows ++ (1 + length rows, row) ∷ [] = jobs-append used rows (row ∷ []) ∙ rw (later_jobs-one used (length rows) row h) refl in
    record {
      whole = rw more (find-append (is_lacking used most) (jobs used rows) ((1 + length rows, row) ∷ []) ∙ rw (taken.whole, good) refl);
      joined = rw (
        more,
        map-append (λ (job : NumberedRecord). numbers_of used most job.1) (jobs used rows) ((1 + length rows, row) ∷ []),
        concat-append (good_rows used most rows) (numbers_of used most row ∷ []),
        taken.joined,
        append-nil (numbers_of used most row),
      ) refl;
      counted = rw (more, length-append (jobs used rows) ((1 + length rows, row) ∷ []), taken.counted) refl;
      few = omega (arith, length-append rows (row ∷ []), taken.few);
    }

-- the first bad record, whatever stands behind it
pub Taken-found : (used : List ℕ) (most : ℕ) (rows : List Record) (numbers : List ℕ) (count : ℕ) (row : Record) (rest : List Record)
    → is_header used (1 + length rows, row) ≡ false → lacks_number used most row ≡ true
    → Taken used most rows numbers count → find (is_lacking used most) (jobs used (rows ++ row ∷ rest)) ≡ Some (1 + length rows, row)
Taken-found used most rows numbers count row rest h bad taken =
    let later = later_jobs-job used (length rows) row rest h in
    rw (jobs-append used rows (row ∷ rest), later.1) (find-append (is_lacking used most) (jobs used rows) _ ∙ rw (taken.whole, bad) refl)

pub Taken-bad : (used : List ℕ) (most : ℕ) (rows : List Record) (numbers : List ℕ) (count : ℕ) (row : Record) (rest : List Record)
    → is_header used (1 + length rows, row) ≡ false → lacks_number used most row ≡ true
    → Taken used most rows numbers count → rows_of used most (rows ++ row ∷ rest) ≡ Err (1 + length rows)
unfolding first_bad
Taken-bad used most rows numbers count row rest h bad taken =
    rw (Taken-found used most rows numbers count row rest h bad taken) refl

-- all the records of a file
pub Taken-all : (used : List ℕ) (most : ℕ) (rows : List Record) (numbers : List ℕ) (count : ℕ)
    → Taken used most rows numbers count → HoldsRows (rows_of used most rows) numbers count
unfolding first_bad
Taken-all used most rows numbers count taken = rw taken.whole (taken.joined, taken.counted ∙ sym (length-map (jobs used rows) (λ (job : NumberedRecord). numbers_of used most job.1)))

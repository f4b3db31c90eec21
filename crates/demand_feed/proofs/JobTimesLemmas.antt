-- Where a number of a table stands among the numbers row after row.
use Rattle.std.proofs.Common.{◌≡◌, ◌∙◌, ◌≤◌, ◌<◌, ◌+◌, ◌-◌, ◌*◌, ℕ, zero, suc, List, Result, Ok, Err, eqb, map, length, drop, take, ◌++◌, [], ◌∷◌, get_or, refl, sym, ap, inl, inr, arith}
use Rattle.std.specs.List.{All, AllByRecursion, Contains, concat, position_or_len}
use Rattle.std.specs.List.Sorted.{IsBinarySearchResult, IsStrictlyIncreasing}
use Rattle.std.specs.Ordering.{nat_cmp}
use Rattle.std.proofs.lemmas.Bool.{cases_lt, eq-eqb, ne_eqb}
use Rattle.std.proofs.lemmas.List.{get_or-drop, get_or-take, get_or_default, length-map, take_more, take_all}
use Rattle.std.proofs.lemmas.List.Elements.{All-nil, All-cons, All-take, All-drop}
use Rattle.std.proofs.lemmas.List.Kept.{AllPairs-from_increasing}
use Rattle.std.proofs.lemmas.List.Sorted.{searched}
use Rattle.std.proofs.lemmas.List.Sums.{position_or_len_is}
use Rattle.line_base.specs.declared.limits.TheConstants.{MAX_TIME}
use Rattle.demand_feed.specs.Records.{records_of}
use Rattle.demand_feed.specs.Rows.{HoldsRows, rows_of}
use Rattle.demand_feed.specs.Times.{times_of, under_columns}
use Rattle.demand_feed.proofs.GoodRows.{Accepted-held, All-concat-rows, IsRow, cut_rows-concat, length-concat-rows}
use Rattle.demand_feed.specs.JobTimes.{IsFilled, JobTimes, cut_rows, field_of, number_for, numbers_in, job_times}

pub length-cut_rows : (width count : ℕ) (numbers : List ℕ) → length (cut_rows width count numbers) ≡ count
unfolding cut_rows
length-cut_rows width zero numbers = refl
length-cut_rows width (suc count) numbers = ap suc (length-cut_rows width count (drop width numbers))

-- where no number is above a limit, none of a row is
pub limit-cut_rows : (limit width count : ℕ) (numbers : List ℕ) → All (λ n. n ≤ limit) numbers → All (λ row. All (λ n. n ≤ limit) row) (cut_rows width count numbers)
unfolding cut_rows
limit-cut_rows limit width zero numbers low = All-nil (λ row. All (λ n. n ≤ limit) row)
limit-cut_rows limit width (suc count) numbers low =
    All-cons (λ row. All (λ n. n ≤ limit) row) _ _ (All-take (λ n. n ≤ limit) width numbers low)
    (limit-cut_rows limit width count (drop width numbers) (All-drop (λ n. n ≤ limit) width numbers low))

-- the number of row k for the column at index p
pub numbers_in-cut_rows : (columns : List ℕ) (column count : ℕ) (numbers : List ℕ) (k p : ℕ) → k < count → p < length columns
    → position_or_len (λ other. eqb other column) columns ≡ p
    → get_or (map (number_for columns column) (cut_rows (length columns) count numbers)) k 0 ≡ get_or numbers (k * length columns + p) 0
unfolding cut_rows
numbers_in-cut_rows columns column zero numbers k p within inside index = absurd (omega arith)
numbers_in-cut_rows columns column (suc count) numbers zero p within inside index =
    let first : p ≡ 0 * length columns + p = omega arith in
    rw index (get_or-take (length columns) numbers p 0 inside ∙ ap (λ (at : ℕ). get_or numbers at 0) first)
numbers_in-cut_rows columns column (suc count) numbers (suc k) p within inside index =
    let later : length columns + (k * length columns + p) ≡ suc k * length columns + p = omega arith in
    numbers_in-cut_rows columns column count (drop (length columns) numbers) k p (omega arith) inside index
    ∙ get_or-drop (length columns) numbers (k * length columns + p) 0
    ∙ ap (λ (at : ℕ). get_or numbers at 0) later

-- numbers that rise, from one index to any later one
rises : (xs : List ℕ) → IsStrictlyIncreasing xs → (i j : ℕ) → i < j → j < length xs → get_or xs i 0 < get_or xs j 0
rises xs up i j below within = AllPairs-from_increasing xs up i j 0 below within

keeps-up : (xs : List ℕ) → IsStrictlyIncreasing xs → (i j : ℕ) → i ≤ j → j < length xs → get_or xs i 0 ≤ get_or xs j 0
keeps-up xs up i j order within = elim (cases_lt i j) [
  | inl below ↦ omega (arith, rises xs up i j below within)
  | inr other ↦
      let same : i ≡ j = omega arith in
      rw same (omega arith)
]

-- a search in rising columns finds one at its only index
pub index-found : (columns : List ℕ) (column p : ℕ) (r : Result ℕ ℕ) → r ≡ Ok p → IsStrictlyIncreasing columns
    → IsBinarySearchResult (λ y. nat_cmp y column) columns r → (p < length columns) × (position_or_len (λ other. eqb other column) columns ≡ p)
index-found columns column p r is up found =
    let known = rw is at (searched columns column r found (keeps-up columns up)) in
    let inside = known.0 in (
      inside,
      position_or_len_is (λ other. eqb other column) columns p 0 (omega arith)
          (λ k below. let lower = rises columns up k p below inside in ne_eqb (get_or columns k 0) column (λ same. absurd (omega (arith, known.1))))
          (λ _. eq-eqb (get_or columns p 0) column known.1),
    )

-- and misses none that is there
pub index-missing : (columns : List ℕ) (column i : ℕ) (r : Result ℕ ℕ) → r ≡ Err i → IsStrictlyIncreasing columns
    → IsBinarySearchResult (λ y. nat_cmp y column) columns r → Contains columns column → ⊥
index-missing columns column i r is up missing (k, inside, there) =
    let known = rw is at (searched columns column r missing (keeps-up columns up)) in
    let here : get_or columns k 0 ≡ column = get_or_default columns k 0 column inside ∙ there in
    elim (cases_lt k i) [
      | inl below ↦ omega (arith, known.1 k below)
      | inr above ↦ omega (arith, known.2 k above inside)
    ]

-- an index in a row is an index among all numbers
index-within : (count width k p : ℕ) → k < count → p < width → k * width + p < count * width
index-within count width k p below inside = grind arith

-- the time of a job in a column stands at the index of the column in the job's row; `shown` are the table's columns
pub index-within-times : (table : JobTimes) (columns : List ℕ) (jobs : ℕ) (times : List ℕ) (job : ℕ) (shown : List ℕ) (index : ℕ)
    → job_times columns jobs times ≡ table → IsFilled columns jobs times → (1 ≤ job) × (job ≤ length table.rows)
    → shown ≡ columns → index < length shown → (job - 1) * length shown + index < length times
index-within-times table columns jobs times job shown index seen kept exists same inside =
    let count : length table.rows ≡ jobs = rw (← seen) (length-cut_rows (length columns) jobs times) in
    rw (same, kept.filled) (index-within jobs (length columns) (job - 1) index (omega (arith, exists)) (rw same at inside))

pub field_of-index : (table : JobTimes) (columns : List ℕ) (jobs : ℕ) (times : List ℕ) (job : ℕ) (shown : List ℕ) (index column : ℕ)
    → job_times columns jobs times ≡ table → IsFilled columns jobs times → (1 ≤ job) × (job ≤ length table.rows)
    → shown ≡ columns → index < length shown → index ≡ position_or_len (λ other. eqb other column) shown
    → get_or times ((job - 1) * length shown + index) 0 ≡ field_of table job column
field_of-index table columns jobs times job shown index column seen kept exists same inside found =
    let count : length table.rows ≡ jobs = rw (← seen) (length-cut_rows (length columns) jobs times) in
    rw (same, ← seen) (sym (numbers_in-cut_rows columns column jobs times (job - 1) index (omega (arith, exists)) (rw same at inside) (sym (rw same at found))))

-- a column has a time for each job
length-numbers_in : (table : JobTimes) (columns : List ℕ) (jobs : ℕ) (times : List ℕ) (column : ℕ) → job_times columns jobs times ≡ table → length (numbers_in table column) ≡ jobs
length-numbers_in table columns jobs times column seen =
    rw (← seen) (length-map (cut_rows (length columns) jobs times) (number_for columns column) ∙ length-cut_rows (length columns) jobs times)

-- the times of all jobs are the column's
pub numbers_in-all : (table : JobTimes) (columns : List ℕ) (jobs : ℕ) (times : List ℕ) (job column : ℕ) → job_times columns jobs times ≡ table
    → jobs ≤ job → take job (numbers_in table column) ≡ numbers_in table column
numbers_in-all table columns jobs times job column seen past =
    take_all job (numbers_in table column) (omega (arith, length-numbers_in table columns jobs times column seen))

-- the index of one more job is one among all times; `shown` are the table's columns
pub index-within-column : (columns : List ℕ) (jobs : ℕ) (times : List ℕ) (job : ℕ) (shown : List ℕ) (index : ℕ) → IsFilled columns jobs times
    → job < jobs → shown ≡ columns → index < length shown → job * length shown + index < length times
index-within-column columns jobs times job shown index kept below same inside =
    rw (same, kept.filled) (index-within jobs (length columns) job index below (rw same at inside))

-- one more time of a column
pub numbers_in-more : (table : JobTimes) (columns : List ℕ) (jobs : ℕ) (times : List ℕ) (job : ℕ) (shown : List ℕ) (index column : ℕ)
    → job_times columns jobs times ≡ table → job < jobs → shown ≡ columns → index < length shown → index ≡ position_or_len (λ other. eqb other column) shown
    → take (job + 1) (numbers_in table column) ≡ take job (numbers_in table column) ++ get_or times (job * length shown + index) 0 ∷ []
numbers_in-more table columns jobs times job shown index column seen below same inside found =
    let count = length-numbers_in table columns jobs times column seen in
    let here : get_or (numbers_in table column) job 0 ≡ get_or times (job * length shown + index) 0 =
    rw (same, ← seen) (numbers_in-cut_rows columns column jobs times job index below (rw same at inside) (sym (rw same at found))) in
    take_more (numbers_in table column) job 0 (omega (arith, count))
    ∙ ap (λ (time : ℕ). take job (numbers_in table column) ++ time ∷ []) here

-- good rows, joined, make a table
IsFilled-rows : (columns kept numbers : List ℕ) (jobs : ℕ) (rows : List (List ℕ)) → kept ≡ columns → IsStrictlyIncreasing columns
    → AllByRecursion (IsRow (length columns) MAX_TIME) rows → numbers ≡ concat rows → jobs ≡ length rows → IsFilled kept jobs numbers
IsFilled-rows columns kept numbers jobs rows same up good joined counted =
    record {
      ascending = rw same up;
      filled = rw (same, joined, counted) (length-concat-rows (length columns) MAX_TIME rows good);
      limit = rw joined (All-concat-rows (length columns) MAX_TIME rows good);
    }

-- and the table has those rows
job_times-rows : (columns kept numbers : List ℕ) (jobs : ℕ) (rows : List (List ℕ)) → kept ≡ columns
    → AllByRecursion (IsRow (length columns) MAX_TIME) rows → numbers ≡ concat rows → jobs ≡ length rows
    → under_columns columns (Ok rows) ≡ Ok (job_times kept jobs numbers)
job_times-rows columns kept numbers jobs rows same good joined counted =
    rw (same, joined, counted, cut_rows-concat (length columns) MAX_TIME rows good) refl

-- what a pass over a file holds is the table of its times
pub IsFilled-held : (columns kept file numbers : List ℕ) (jobs : ℕ) → kept ≡ columns → IsStrictlyIncreasing columns
    → HoldsRows (rows_of columns MAX_TIME (records_of file)) numbers jobs → IsFilled kept jobs numbers
IsFilled-held columns kept file numbers jobs same up held =
    let all = Accepted-held columns MAX_TIME (records_of file) numbers jobs held in
    IsFilled-rows columns kept numbers jobs all.rows same up all.good all.joined all.counted

pub times_of-held : (columns kept file numbers : List ℕ) (jobs : ℕ) → kept ≡ columns
    → HoldsRows (rows_of columns MAX_TIME (records_of file)) numbers jobs → times_of columns file ≡ Ok (job_times kept jobs numbers)
times_of-held columns kept file numbers jobs same held =
    let all = Accepted-held columns MAX_TIME (records_of file) numbers jobs held in
    ap (under_columns columns) all.tells ∙ job_times-rows columns kept numbers jobs all.rows same all.good all.joined all.counted

-- What the rows of an accepted file are: as wide as the used columns, within the limit, and no more than bytes.
use Rattle.std.proofs.Common.{◌≡◌, ◌≤◌, ◌+◌, ◌*◌, ◌++◌, ℕ, zero, suc, List, [], ◌∷◌, Option, Some, None, Ok, Err, Bool, true, false, ◌||◌, ◌&&◌, not, map, length, take, drop, refl, ap, subst, inl, inr, arith}
use Rattle.std.specs.List.{All, AllByRecursion, concat, cons_option, enumerate_from, find}
use Rattle.std.specs.Prelude.{nat_le}
use Rattle.std.specs.Str.Parse.{digits_value}
use Rattle.std.proofs.lemmas.List.Elements.{All-append, All-cons, All-nil}
use Rattle.std.proofs.lemmas.Option.{cond_some, option_and_then_some}
use Rattle.std.specs.Option.{is_none, option_map}
use Rattle.std.proofs.lemmas.Bool.{cases_Bool, leb-true}
use Rattle.std.proofs.lemmas.List.{length-append, length-map}
use Rattle.csv.specs.Machine.{Read, next_record}
use Rattle.csv.specs.Reading.{default_config, records_from, records_next, strip_bom}
use Rattle.csv.specs.declared.parser.State.{State}
use Rattle.csv.specs.declared.parser.State.TheVariants as st
use Rattle.std.proofs.lemmas.List.FromFn.{length-enumerate_from}
use Rattle.std.proofs.lemmas.List.Sums.{count_by-le-length, length-filter}
use Rattle.std.proofs.Math.Seq.{drop-append_seam, take-append_seam}
use Rattle.demand_feed.proofs.ReadRecords.{length-strip_bom}
use Rattle.demand_feed.specs.Records.{Record, records_of}
use Rattle.demand_feed.specs.Rows.{HoldsRows, NumberedRecord, FeedResult, field_in, first_bad, is_header, jobs, lacks_number, number_at, numbers_of, rows_of, unless_bad}
use Rattle.demand_feed.specs.Field.{decimal_up_to, is_decimal, number_in, without_blanks}
use Rattle.demand_feed.specs.JobTimes.{cut_rows}

-- a row with a number for each used column, none above the limit
pub record IsRow (width most : ℕ) (row : List ℕ) : Type 0 where
  pub wide : length row ≡ width
  pub limit : All (λ n. n ≤ most) row

-- a number that a text gives is within the limit
decimal_up_to-le : (most : ℕ) (text : List ℕ) (n : ℕ) → decimal_up_to most text ≡ Some n → n ≤ most
unfolding decimal_up_to
decimal_up_to-le most text n h =
    let read = cond_some (is_decimal text && nat_le (digits_value 10 text) most) (digits_value 10 text) n h in
    let small = leb-true (digits_value 10 text) most (and-right (is_decimal text) (nat_le (digits_value 10 text) most) read.0) in
    omega (arith, read.1)
  where
    and-right : (a b : Bool) → (a && b) ≡ true → b ≡ true
    and-right true b e = e
    and-right false b e = cc e

number_at-le : (most : ℕ) (fields : Record) (column n : ℕ) → number_at most fields column ≡ Some n → n ≤ most
unfolding number_at
number_at-le most fields column n h =
    option_and_then_some (number_in most) (field_in fields column) n h (λ field there read. decimal_up_to-le most (without_blanks field) n read)

-- a record that lacks no number gives a row
IsRow-numbers_of : (used : List ℕ) (most : ℕ) (fields : Record) → lacks_number used most fields ≡ false → IsRow (length used) most (numbers_of used most fields)
IsRow-numbers_of [] most fields good = record { wide = refl; limit = All-nil (λ n. n ≤ most) }
IsRow-numbers_of (column ∷ used) most fields good = next (number_at most fields column) refl good (IsRow-numbers_of used most fields)
  where
    next : (o : Option ℕ) → number_at most fields column ≡ o → (is_none o || lacks_number used most fields) ≡ false
        → (lacks_number used most fields ≡ false → IsRow (length used) most (numbers_of used most fields))
        → IsRow (suc (length used)) most (cons_option o (numbers_of used most fields))
    next None e h rest = cc h
    next (Some n) e h rest =
        let row = rest h in
        record { wide = ap suc row.wide; limit = All-cons (λ m. m ≤ most) n _ (number_at-le most fields column n e) row.limit }

-- the rows of records none of which is bad
rows-good : (used : List ℕ) (most : ℕ) (rows : List NumberedRecord) → find (λ row. lacks_number used most row.1) rows ≡ None
    → AllByRecursion (IsRow (length used) most) (map (λ row. numbers_of used most row.1) rows)
rows-good used most [] none = tt
rows-good used most (row ∷ rows) none = elim (cases_Bool (lacks_number used most row.1)) [
  | inl lacks ↦ cc (rw lacks at none)
  | inr good ↦ (IsRow-numbers_of used most row.1 good, rows-good used most rows (rw good at none))
]

-- there are no more jobs than records
length-jobs-le : (used : List ℕ) (records : List Record) → length (jobs used records) ≤ length records
unfolding jobs
length-jobs-le used records =
    let test : NumberedRecord → Bool = λ row. not (is_header used row) in
    let all = enumerate_from 1 records in
    omega (arith, length-filter test all, count_by-le-length test all, length-enumerate_from 1 records)

-- an accepted file's rows
pub rows_of-rows : (used : List ℕ) (most : ℕ) (records : List Record) (rows : List (List ℕ)) → rows_of used most records ≡ Ok rows
    → AllByRecursion (IsRow (length used) most) rows × (length rows ≤ length records)
unfolding first_bad
rows_of-rows used most records rows h = by (find (λ row. lacks_number used most row.1) (jobs used records)) refl h
  where
    by : (o : Option NumberedRecord) → find (λ row. lacks_number used most row.1) (jobs used records) ≡ o
        → unless_bad (option_map (λ row. row.0) o) (map (λ row. numbers_of used most row.1) (jobs used records)) ≡ Ok rows
        → AllByRecursion (IsRow (length used) most) rows × (length rows ≤ length records)
    by None e same =
        let is : map (λ row. numbers_of used most row.1) (jobs used records) ≡ rows = cc same in
        let fewer = length-jobs-le used records in
        let size = length-map (jobs used records) (λ (row : NumberedRecord). numbers_of used most row.1) in
        subst (λ (found : List (List ℕ)). AllByRecursion (IsRow (length used) most) found × (length found ≤ length records)) is
        (rows-good used most (jobs used records) e, omega arith)
    by (Some bad) e same = cc same

-- what the pass over a file holds, where its rows are known
pub record Accepted (used : List ℕ) (most : ℕ) (records : List Record) (numbers : List ℕ) (count : ℕ) : Type 0 where
  pub rows : List (List ℕ)
  pub tells : rows_of used most records ≡ Ok rows
  pub good : AllByRecursion (IsRow (length used) most) rows
  pub few : count ≤ length records
  pub joined : numbers ≡ concat rows
  pub counted : count ≡ length rows

pub Accepted-held : (used : List ℕ) (most : ℕ) (records : List Record) (numbers : List ℕ) (count : ℕ)
    → HoldsRows (rows_of used most records) numbers count → Accepted used most records numbers count
Accepted-held used most records numbers count held = by (rows_of used most records) refl held
  where
    by : (read : FeedResult (List (List ℕ))) → rows_of used most records ≡ read → HoldsRows read numbers count → Accepted used most records numbers count
    by (Ok rows) e h =
        let good = rows_of-rows used most records rows e in
        record { rows = rows; tells = e; good = good.0; few = omega (arith, h.1, good.1); joined = h.0; counted = h.1 }
    by (Err number) e h = absurd h

-- rows joined have as many numbers as rows times columns
pub length-concat-rows : (width most : ℕ) (rows : List (List ℕ)) → AllByRecursion (IsRow width most) rows → length (concat rows) ≡ length rows * width
length-concat-rows width most [] good = omega arith
length-concat-rows width most (row ∷ rows) good =
    omega (arith, length-append row (concat rows), good.0.wide, length-concat-rows width most rows good.1)

-- and none above the limit
pub All-concat-rows : (width most : ℕ) (rows : List (List ℕ)) → AllByRecursion (IsRow width most) rows → All (λ n. n ≤ most) (concat rows)
All-concat-rows width most [] good = All-nil (λ n. n ≤ most)
All-concat-rows width most (row ∷ rows) good = All-append (λ n. n ≤ most) row (concat rows) good.0.limit (All-concat-rows width most rows good.1)

-- rows joined and cut again are the rows
pub cut_rows-concat : (width most : ℕ) (rows : List (List ℕ)) → AllByRecursion (IsRow width most) rows → cut_rows width (length rows) (concat rows) ≡ rows
unfolding cut_rows
cut_rows-concat width most [] good = refl
cut_rows-concat width most (row ∷ rows) good =
    let front : take width (row ++ concat rows) ≡ row = rw (← good.0.wide) (take-append_seam row (concat rows)) in
    let behind : drop width (row ++ concat rows) ≡ concat rows = rw (← good.0.wide) (drop-append_seam row (concat rows)) in
    rw (front, behind) (ap (λ (rest : List (List ℕ)). row ∷ rest) (cut_rows-concat width most rows good.1))

-- there are no more records than bytes, but for one
length-next : (n : ℕ) (o : Option Read) → ((s : State) (xs : List ℕ) → length (records_from default_config n s xs) ≤ n)
    → length (records_next (records_from default_config n) o) ≤ suc n
length-next n None more = omega arith
length-next n (Some p) more = omega (arith, more p.1 p.2)

length-records_from : (n : ℕ) (s : State) (xs : List ℕ) → length (records_from default_config n s xs) ≤ n
unfolding records_from
length-records_from zero s xs = omega arith
length-records_from (suc n) s xs = length-next n (next_record default_config s [] [] xs) (length-records_from n)

pub length-records_of : (file : List ℕ) → length (records_of file) ≤ length file + 1
length-records_of file =
    omega (arith, length-records_from (length (strip_bom file) + 1) st.StartRecord (strip_bom file), length-strip_bom file)

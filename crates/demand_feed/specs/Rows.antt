-- From the records of a file to one row of numbers a job, or to the first bad record.
use Rattle.std.specs.Prelude.{◌≡◌, ℕ, ◌-◌, Bool, false, ◌==◌, ◌&&◌, not, if◌then◌else◌, List, [], ◌∷◌, map, length, Option, Some, None, Result, Ok, Err, is_none, slice_get}
use Rattle.std.specs.List.{concat, enumerate_from, filter, filter_map, find, list_all, list_any}
use Rattle.std.specs.Option.{option_and_then, option_map, option_map_or}
use Rattle.demand_feed.specs.Field.{is_title, number_in}
use Rattle.demand_feed.specs.Records.{Record}

-- the field of a record in a column, if it has one; columns count from 1
abbrev pub field_in : Record → ℕ → Option (List ℕ)
field_in fields column = slice_get fields (column - 1)

-- the number of at most `most` in a column of a record, if there is one
unfoldable pub number_at : ℕ → Record → ℕ → Option ℕ
number_at most fields column = option_and_then (number_in most) (field_in fields column)

-- whether a record has a title in a column
unfoldable pub has_title_at : Record → ℕ → Bool
has_title_at fields column = option_map_or is_title (field_in fields column) false

-- a record with its number in the file, from 1
abbrev pub NumberedRecord : Type 0
NumberedRecord = ℕ × Record

-- a header: the first record, where it has a title in every used column
abbrev pub is_header : List ℕ → NumberedRecord → Bool
is_header used row = row.0 == 1 && list_all (has_title_at row.1) used

-- how many records stand before that of the first job: a header, or none
abbrev pub headers_of : List ℕ → List Record → ℕ
headers_of used [] = 0
headers_of used (first ∷ rest) = if is_header used (1, first) then 1 else 0

-- the records of jobs: all but a header
unfoldable pub jobs : List ℕ → List Record → List NumberedRecord
jobs used records = filter (λ row. not (is_header used row)) (enumerate_from 1 records)

-- a bad record: it lacks a number of at most `most` in some used column
abbrev pub lacks_number : List ℕ → ℕ → Record → Bool
lacks_number used most fields = list_any (λ column. is_none (number_at most fields column)) used

-- the number of the first bad record among those of jobs, if one is bad
unfoldable pub first_bad : List ℕ → ℕ → List Record → Option ℕ
first_bad used most records =
    option_map (λ row. row.0) (find (λ row. lacks_number used most row.1) (jobs used records))

-- the numbers of a record, column by column
abbrev pub numbers_of : List ℕ → ℕ → Record → List ℕ
numbers_of used most fields = filter_map (number_at most fields) used

-- what is read of a file: what it holds, or the number of its first bad record
abbrev pub FeedResult : Type 0 → Type 0
FeedResult A = Result A ℕ

abbrev pub unless_bad : {A : Type 0} → Option ℕ → A → FeedResult A
unless_bad None held = Ok held
unless_bad (Some number) held = Err number

-- the numbers of each job in turn, or the number of the first bad record
abbrev pub rows_of : List ℕ → ℕ → List Record → FeedResult (List (List ℕ))
rows_of used most records =
    unless_bad (first_bad used most records) (map (λ row. numbers_of used most row.1) (jobs used records))

-- these numbers and this count are of the rows that a file holds
abbrev pub HoldsRows : FeedResult (List (List ℕ)) → List ℕ → ℕ → Type 0
HoldsRows (Ok rows) numbers count = (numbers ≡ concat rows) × (count ≡ length rows)
HoldsRows (Err number) numbers count = ⊥

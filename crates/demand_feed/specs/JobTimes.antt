-- What contracts see of a `Columns`.
use Rattle.std.specs.Prelude.{◌≡◌, ◌≤◌, ℕ, zero, suc, ◌-◌, ◌*◌, ◌==◌, All, List, [], ◌∷◌, drop, length, map, slice_index, take}
use Rattle.std.specs.List.{position_or_len}
use Rattle.std.specs.List.Sorted.{IsStrictlyIncreasing}
use Rattle.line_base.specs.Limits.{longest_time}

-- the columns that were asked for, and for each job the row of their numbers
pub record JobTimes : Type 0 where
  pub columns : List ℕ
  pub rows : List (List ℕ)

-- the number that a row has for a column
abbrev pub number_for : List ℕ → ℕ → List ℕ → ℕ
number_for columns column row = slice_index row (position_or_len (λ other. other == column) columns)

-- the numbers of a column, job by job
abbrev pub numbers_in : JobTimes → ℕ → List ℕ
numbers_in table column = map (number_for table.columns column) table.rows

-- the number of a job in a column; jobs count from 1
abbrev pub field_of : JobTimes → ℕ → ℕ → ℕ
field_of table job column = slice_index (numbers_in table column) (job - 1)

-- numbers that stand row after row, as this many rows of this width
unfoldable pub cut_rows : ℕ → ℕ → List ℕ → List (List ℕ)
cut_rows width zero numbers = []
cut_rows width (suc count) numbers = take width numbers ∷ cut_rows width count (drop width numbers)

-- the table of this many jobs whose times stand row after row
abbrev pub job_times : List ℕ → ℕ → List ℕ → JobTimes
job_times columns jobs times = record { columns = columns; rows = cut_rows (length columns) jobs times }

-- the columns rise, each job has a time for each, and no time is above the limit
pub record IsFilled (columns : List ℕ) (jobs : ℕ) (times : List ℕ) : Type 0 where
  pub ascending : IsStrictlyIncreasing columns
  pub filled : length times ≡ jobs * length columns
  pub limit : All (λ time. time ≤ longest_time) times

-- What a times file holds.
use Rattle.std.specs.Prelude.{ℕ, List, Ok, Err}
use Rattle.line_base.specs.Limits.{longest_time}
use Rattle.demand_feed.specs.Records.{records_of}
use Rattle.demand_feed.specs.Rows.{FeedResult, rows_of}
use Rattle.demand_feed.specs.JobTimes.{JobTimes}

-- the rows with the columns that they are of
abbrev pub under_columns : List ℕ → FeedResult (List (List ℕ)) → FeedResult JobTimes
under_columns columns (Ok rows) = Ok (record { columns = columns; rows = rows })
under_columns columns (Err number) = Err number

-- the times in these columns of a times file, job by job, or the number of its first bad record
abbrev pub times_of : List ℕ → List ℕ → FeedResult JobTimes
times_of columns file = under_columns columns (rows_of columns longest_time (records_of file))

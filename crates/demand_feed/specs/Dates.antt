-- What a demand file holds.
use Rattle.std.specs.Prelude.{ℕ, List, [], ◌∷◌, Ok, Err}
use Rattle.std.specs.List.{concat}
use Rattle.line_base.specs.Limits.{last_demand}
use Rattle.demand_feed.specs.Records.{records_of}
use Rattle.demand_feed.specs.Rows.{FeedResult, rows_of}

-- the one used column of a demand file, as the list of its used columns; columns count from 1
abbrev pub date_columns : ℕ → List ℕ
date_columns column = column ∷ []

-- the rows joined, which have one date each; a file without a date is refused with the number 0
abbrev pub joined_dates : FeedResult (List (List ℕ)) → FeedResult (List ℕ)
joined_dates (Ok []) = Err 0
joined_dates (Ok (row ∷ rows)) = Ok (concat (row ∷ rows))
joined_dates (Err number) = Err number

-- the dates in this column of a demand file, in its order, or the number of its first bad record
abbrev pub dates_of : ℕ → List ℕ → FeedResult (List ℕ)
dates_of column file = joined_dates (rows_of (date_columns column) last_demand (records_of file))

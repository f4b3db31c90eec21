-- What contracts see of a log and of a list of logs: the dates, and the room as a number beside.
use Rattle.std.specs.Prelude.{ℕ, List, [], ◌∷◌, ◌++◌, slice_index_or, map}

-- a list of dates, and how many it has room for
pub record RoomyLog : Type 0 where
  pub dates : List ℕ
  pub room : ℕ

-- a list of logs, and how many it has room for
pub record RoomyLogs : Type 0 where
  pub logs : List RoomyLog
  pub room : ℕ

-- the log with one more date at its end
abbrev pub with_date : RoomyLog → ℕ → RoomyLog
with_date log date = record { dates = log.dates ++ date ∷ []; room = log.room }

-- the log with this number, and an empty one with no room past the end
abbrev pub log_at : RoomyLogs → ℕ → RoomyLog
log_at list k = slice_index_or list.logs k (record { dates = []; room = 0 })

-- the dates of each log
abbrev pub dates_of : RoomyLogs → List (List ℕ)
dates_of list = map (λ log. log.dates) list.logs

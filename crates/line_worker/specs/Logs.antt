-- What a station gives up when its line is closed: its log, or a copy of it.
use Rattle.std.specs.Prelude.{ℕ, length}
use Rattle.line_base.specs.Roomy.{RoomyLog}
use Rattle.station_step.specs.Station.{WorkStation}

-- the log of a station
abbrev pub log_of : WorkStation → RoomyLog
log_of s = s.log

-- how many dates a log has
abbrev pub dates_in : RoomyLog → ℕ
dates_in log = length log.dates

-- a copy of a log, with room for this many dates
abbrev pub copy_with : ℕ → RoomyLog → RoomyLog
copy_with room log = record { dates = log.dates; room = room }

-- a copy of the log of a station, with room for this many dates
abbrev pub copy_of : ℕ → WorkStation → RoomyLog
copy_of room s = record { dates = s.log.dates; room = room }

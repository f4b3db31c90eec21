-- The logs of all stations of a line, in the order of their numbers: those with which the line is closed, and copies
-- of them.
use Rattle.std.specs.Prelude.{◌≡◌, ℕ, ◌≤◌, List, map, length}
use Rattle.std.specs.List.{range_with_len}
use Rattle.line_base.specs.declared.event.Parts.{Parts}
use Rattle.line_base.specs.Roomy.{RoomyLog, RoomyLogs}
use Rattle.event_graph.specs.Network.{stations, jobs}
use Rattle.station_step.specs.Station.{WorkStation}
use Rattle.line_worker.specs.Share.{first_of}
use Rattle.line_worker.specs.Team.{WorkTeam}
use Rattle.line_worker.specs.Teams.{station_of}
use Rattle.line_worker.specs.Worker.{LineWorker, teams_of}
use Rattle.line_worker.specs.Workers.{graph_of}
use Rattle.line_worker.specs.Logs.{log_of, copy_of}

-- what this gives of each of the first stations, up to this number
abbrev pub first_logs : (WorkStation → RoomyLog) → Parts → List WorkTeam → ℕ → List RoomyLog
first_logs of g teams count = map (λ t. of (station_of g teams t)) (range_with_len 0 count)

-- the logs of all stations
abbrev pub logs_among : Parts → List WorkTeam → List RoomyLog
logs_among g teams = first_logs log_of g teams (stations g)

-- copies of the logs of all stations, each with room for a date of each job
abbrev pub copies_among : Parts → List WorkTeam → List RoomyLog
copies_among g teams = first_logs (copy_of (jobs g)) g teams (stations g)

-- these are what this gives of the stations of the first workers, up to this number, with room for those of all
pub record AreGiven (of : WorkStation → RoomyLog) (workers : List LineWorker) (count : ℕ) (given : RoomyLogs)
    : Type 0 where
  pub logs : given.logs ≡
      first_logs of (graph_of workers) (teams_of workers)
      (first_of (length workers) (stations (graph_of workers)) count)
  pub room : stations (graph_of workers) ≤ given.room

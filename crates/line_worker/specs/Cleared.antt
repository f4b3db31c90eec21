-- The turns of stations counted from 0 again, and nothing else changed.
use Rattle.std.specs.Prelude.{map}
use Rattle.station_step.specs.Station.{WorkStation}
use Rattle.line_worker.specs.Team.{WorkTeam}
use Rattle.line_worker.specs.Worker.{LineWorker, with_team}

-- the station, its turns counted from 0 again
abbrev pub cleared_station : WorkStation → WorkStation
cleared_station s = record s { turns = 0 }

-- the team and the worker whose stations' turns are counted from 0 again
abbrev pub cleared_team : WorkTeam → WorkTeam
cleared_team team = record { stations = map cleared_station team.stations; shelf = team.shelf }

abbrev pub cleared_worker : LineWorker → LineWorker
cleared_worker c = with_team c (cleared_team c.team)

use Rattle.std.proofs.Common.{◌≡◌, ◌++◌, map, take, drop}
use Rattle.line_worker.specs.Cleared.{cleared_station}
use Rattle.line_worker.proofs.clearing.clear_stations.Given as goal

abbrev pub invariant-loop-station : goal.invariant-loop-station
invariant-loop-station l =
    l.station-items ≡ map cleared_station (take l.station-index l.initial.station-items) ++ drop l.station-index l.initial.station-items

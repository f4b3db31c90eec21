use Rattle.std.proofs.Common.{◌≡◌, ◌*◌, ◌≤◌}
use Rattle.std.specs.List.{flat_map, range_with_len, sum_by}
use Rattle.event_graph.specs.Network.{jobs}
use Rattle.event_graph.specs.Table.{date_in}
use Rattle.outside_io.specs.Outgoing.{Pushed, stream}
use Rattle.latest_dates.specs.Found.{found_of, latest_of}
use Rattle.latest_dates.specs.LatestText.{station_lines, tight_at}
use Rattle.latest_dates.proofs.writing.write_stations.Given as goal

-- the lines of the stations before are written, and those of them without slack counted
abbrev pub invariant-loop-before : goal.invariant-loop-before
invariant-loop-before g l =
    Pushed (stream (g.K.Sink.shown l.initial.sink) l.initial.out)
    (stream (g.K.Sink.shown l.sink) l.out)
    (flat_map (station_lines l.run.live.graph (date_in l.run.table.rows) (latest_of (found_of l.run))) (range_with_len 1 l.before))
    × (l.tight ≡ sum_by (tight_at l.run.live.graph (date_in l.run.table.rows) (latest_of (found_of l.run))) (range_with_len 1 l.before))
    × (l.tight ≤ l.before * jobs l.run.live.graph)

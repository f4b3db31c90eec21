use Rattle.std.proofs.Common.{◌≤◌, ◌*◌, ◌^◌}
use Rattle.std.specs.List.{flat_map, range_with_len}
use Rattle.outside_io.specs.Outgoing.{stream}
use Rattle.answers.specs.ChangesText.{lines_of_station}
use Rattle.answers.specs.Written.{IsWritten}
use Rattle.answers.proofs.change_lines.write_stations.Given as goal

-- the lines of the stations before are written
abbrev pub invariant-loop-t : goal.invariant-loop-t
invariant-loop-t g l = record {
  written : IsWritten (stream (g.K.Sink.shown l.initial.sink) l.initial.out) (stream (g.K.Sink.shown l.sink) l.out)
      (flat_map (lines_of_station l.sheet) (range_with_len 0 l.t)) l.count;
  few : l.count ≤ l.t * 2 ^ 32;
}

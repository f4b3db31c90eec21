use Rattle.std.proofs.Common.{◌≤◌}
use Rattle.std.specs.List.{flat_map, range_with_len}
use Rattle.outside_io.specs.Outgoing.{stream}
use Rattle.answers.specs.ChangesText.{lines_of_date}
use Rattle.answers.specs.Written.{IsWritten}
use Rattle.answers.proofs.change_lines.write_station.Given as goal

-- the lines of the jobs before are written
abbrev pub invariant-loop-before : goal.invariant-loop-before
invariant-loop-before g l = record {
  written : IsWritten (stream (g.K.Sink.shown l.initial.sink) l.initial.out) (stream (g.K.Sink.shown l.sink) l.out)
      (flat_map (lines_of_date l.sheet l.t) (range_with_len 1 l.before)) l.count;
  few : l.count ≤ l.before;
}

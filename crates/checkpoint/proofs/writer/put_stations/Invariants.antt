use Rattle.std.proofs.Common.{◌≡◌, ◌++◌, drop}
use Rattle.checkpoint.specs.declared.format.Format.TheVariants.{Differences}
use Rattle.checkpoint.specs.Text.{station_lines, lines_text}
use Rattle.checkpoint.proofs.writer.put_stations.Given as goal

abbrev pub invariant-loop-t : goal.invariant-loop-t
invariant-loop-t g l =
    l.text.items ++ lines_text Differences (drop l.t (station_lines l.graph)) (drop l.t (g.S.AsState.run l.state).state.logs) ≡ l.initial.text.items ++ lines_text Differences (station_lines l.graph) (g.S.AsState.run l.state).state.logs

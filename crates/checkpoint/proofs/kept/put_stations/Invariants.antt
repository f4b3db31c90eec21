use Rattle.std.proofs.Common.{◌≡◌, ℕ, ◌<◌, ◌++◌, drop, length}
use Rattle.event_graph.specs.State.{log}
use Rattle.checkpoint.specs.declared.format.Format.TheVariants.{Differences}
use Rattle.checkpoint.specs.Kept.{words_at, AreFirstWordsOfEach}
use Rattle.checkpoint.specs.Text.{station_lines, lines_text}
use Rattle.line_core.specs.Run.{IsReached}
use Rattle.checkpoint.proofs.kept.put_stations.Given as goal

abbrev pub invariant-loop-t : goal.invariant-loop-t
invariant-loop-t g l =
    let s = (g.S.AsState.run l.state).state in record {
      written : l.text.items ++ lines_text Differences (drop l.t (station_lines l.graph)) (drop l.t s.logs) ≡ l.initial.text.items ++ lines_text Differences (station_lines l.graph) s.logs;
      first : AreFirstWordsOfEach l.graph s l.logs.items;
      reached : 0 < l.t → IsReached (g.S.AsState.run l.state);
      all : (k : ℕ) → k < l.t → (words_at l.logs.items k).count ≡ length (log s k);
    }

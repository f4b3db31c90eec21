use Rattle.std.proofs.Common.{◌≡◌, ◌++◌, drop}
use Rattle.checkpoint.specs.declared.format.Format.TheVariants.{Differences}
use Rattle.checkpoint.specs.Text.{place_lines, lines_text}
use Rattle.checkpoint.proofs.writer.put_places.Given as goal

abbrev pub invariant-loop-a : goal.invariant-loop-a
invariant-loop-a g l =
    l.text.items ++ lines_text Differences (drop l.a (place_lines l.live.graph)) (drop l.a (g.S.AsState.run l.state).state.places) ≡ l.initial.text.items ++ lines_text Differences (place_lines l.live.graph) (g.S.AsState.run l.state).state.places

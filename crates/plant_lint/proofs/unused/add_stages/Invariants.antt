use Rattle.std.specs.Prelude.{string_bytes}
use Rattle.toml.specs.View.{view}
use Rattle.plant_lint.specs.Unused.{unused_in_stage}
use Rattle.plant_lint.proofs.GatheredNotes.{Gathered}
use Rattle.plant_lint.proofs.unused.add_stages.Given as goal

abbrev pub invariant-loop-i : goal.invariant-loop-i
invariant-loop-i l =
    Gathered (λ i s. unused_in_stage l.with_cards l.without_stock i (view s)) l.stages l.i (string_bytes l.initial.text) (string_bytes l.text)

-- How long a text of a state is at most.
use Rattle.std.specs.Prelude.{◌≤◌, length, All}
use Rattle.line_base.specs.Limits.{most_checkpoint_bytes}
use Rattle.line_base.specs.declared.event.Parts.{Parts}
use Rattle.event_graph.specs.State.{State}
use Rattle.event_graph.specs.Reached.{Reached}
use Rattle.checkpoint.specs.declared.format.Format.{Format}
use Rattle.checkpoint.specs.Text.{text}

-- no label is longer than a label may be
abbrev pub HasShortLabels : Parts → Type 0
HasShortLabels g = All (λ label. length label ≤ 49) g.labels

-- no text of a state that firings reach is longer than a checkpoint may be, in either format
abbrev pub FitsLimit : Parts → Type 0
FitsLimit g = (format : Format) (s : State) → Reached g s → length (text format g s) ≤ most_checkpoint_bytes

-- The law on the texts of states, on a public function whose contract cites it.
use Rattle.std.specs.Prelude.{◌≡◌, ℕ, List}
use Rattle.line_base.specs.declared.event.Parts.{Parts}
use Rattle.event_graph.specs.State.{State}
use Rattle.event_graph.specs.Reached.{Reached}
use Rattle.checkpoint.specs.Text.{IsTextOf}

-- bytes that are a text of two states that firings reach are a text of one: texts of different states differ
abbrev pub SaysOneState : Parts → Type 0
SaysOneState g =
    (s u : State) (bytes : List ℕ) → Reached g s → Reached g u → IsTextOf g s bytes
    → IsTextOf g u bytes → s ≡ u

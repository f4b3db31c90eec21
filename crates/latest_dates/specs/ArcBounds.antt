-- How the arcs bound the dates at their starts, as the pass keeps it.
use Rattle.std.specs.Prelude.{◌≡◌, ℕ, ◌+◌, ◌*◌, ◌<◌, List, length, slice_index_or, Option, None, Some, ⊤}
use Rattle.line_base.specs.declared.event.Parts.{Parts}
use Rattle.event_graph.specs.Network.{jobs, arc, arc_count, delay}
use Rattle.event_graph.specs.Term.{work}
use Rattle.latest_dates.specs.declared.arc_bounds.ArcBound.{ArcBound}

-- what arc a adds to each date, where that is kept
abbrev pub AddsToAll : Parts → ℕ → Option ℕ → Type 0
AddsToAll g a None = ⊤
AddsToAll g a (Some added) = (n : ℕ) → added ≡ delay g a + work g a n

-- how arc a bounds the dates at its start
pub record IsBoundOf (g : Parts) (a : ℕ) (b : ArcBound) : Type 0 where
  pub first : b.first ≡ (arc g a).to * jobs g
  pub tokens : b.tokens ≡ (arc g a).tokens
  pub added : AddsToAll g a b.added

-- how each arc does
pub record AreBoundsOf (g : Parts) (bounds : List ArcBound) : Type 0 where
  pub one_for_each : length bounds ≡ arc_count g
  pub each : (a : ℕ) (d : ArcBound) → a < length bounds → IsBoundOf g a (slice_index_or bounds a d)

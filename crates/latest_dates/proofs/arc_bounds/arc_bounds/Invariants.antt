use Rattle.std.proofs.Common.{◌≡◌, ◌<◌, ℕ, length}
use Rattle.std.specs.Prelude.{slice_index_or}
use Rattle.latest_dates.specs.declared.arc_bounds.ArcBound.{ArcBound}
use Rattle.latest_dates.specs.ArcBounds.{IsBoundOf}
use Rattle.latest_dates.proofs.arc_bounds.arc_bounds.Given as goal

-- the arcs before are there
abbrev pub invariant-loop-a : goal.invariant-loop-a
invariant-loop-a l = record {
  count : length l.bounds.items ≡ l.a;
  each : (k : ℕ) (d : ArcBound) → k < length l.bounds.items → IsBoundOf l.graph k (slice_index_or l.bounds.items k d);
}

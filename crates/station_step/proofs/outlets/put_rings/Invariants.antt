use Rattle.std.proofs.Common.{◌≡◌, slice_index}
use Rattle.station_step.specs.Kept.{saturating}
use Rattle.station_step.specs.Noted.{outlets_of, delays_of}
use Rattle.station_step.proofs.FilledOutlets.{FilledUpTo}
use Rattle.station_step.proofs.outlets.put_rings.Given as goal

abbrev pub invariant-loop-noted : goal.invariant-loop-noted
invariant-loop-noted l = record {
  delays : delays_of l.noted-items ≡ delays_of l.fn.outlets.items;
  filled : FilledUpTo l.noted-index (λ k. saturating l.date (slice_index (delays_of l.fn.outlets.items) k)) (outlets_of l.fn.outlets.items) (outlets_of l.noted-items);
}

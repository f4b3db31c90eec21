use Rattle.std.proofs.Common.{◌≡◌}
use Rattle.station_step.specs.Noted.{outlets_of, delays_of}
use Rattle.station_step.proofs.OutletLooks.{LookedUpTo, IsFirstFull}
use Rattle.station_step.proofs.outlets.look_all.Given as goal

abbrev pub invariant-loop-k : goal.invariant-loop-k
invariant-loop-k l = record {
  delays : delays_of l.noted-items ≡ delays_of l.fn.outlets.items;
  looked : LookedUpTo l.k (outlets_of l.fn.outlets.items) (outlets_of l.noted-items);
  found : IsFirstFull l.k l.first (outlets_of l.noted-items);
}

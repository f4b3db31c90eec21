use Rattle.std.proofs.Common.{◌≡◌, take}
use Rattle.std.specs.List.{list_any}
use Rattle.station_step.specs.Ends.{is_bounded, is_ring}
use Rattle.station_step.proofs.noted.kinds_of.Given as goal

abbrev pub invariant-loop-outlet : goal.invariant-loop-outlet
invariant-loop-outlet l = record {
  bounded : l.bounded ≡ list_any is_bounded (take l.outlet-index l.outlets);
  rings : l.rings ≡ list_any is_ring (take l.outlet-index l.outlets);
}

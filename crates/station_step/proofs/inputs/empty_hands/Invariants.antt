use Rattle.std.proofs.Common.{◌≡◌}
use Rattle.station_step.specs.Noted.{inputs_of, extras_of}
use Rattle.station_step.proofs.EmptiedHands.{EmptiedUpTo}
use Rattle.station_step.proofs.inputs.empty_hands.Given as goal

abbrev pub invariant-loop-noted : goal.invariant-loop-noted
invariant-loop-noted l = record {
  extras : extras_of l.noted-items ≡ extras_of l.initial.noted-items;
  emptied : EmptiedUpTo l.noted-index (inputs_of l.initial.noted-items) (inputs_of l.noted-items);
}

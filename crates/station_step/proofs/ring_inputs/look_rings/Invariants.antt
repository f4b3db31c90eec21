use Rattle.std.proofs.Common.{◌≡◌}
use Rattle.station_step.specs.Noted.{inputs_of, extras_of}
use Rattle.station_step.proofs.RingInputs.{LookedUpTo, KnownUpTo}
use Rattle.station_step.proofs.ring_inputs.look_rings.Given as goal

abbrev pub invariant-loop-noted : goal.invariant-loop-noted
invariant-loop-noted l = record {
  extras : extras_of l.noted-items ≡ extras_of l.fn.inputs.items;
  looked : LookedUpTo l.noted-index (inputs_of l.fn.inputs.items) (inputs_of l.noted-items);
  known : KnownUpTo l.noted-index (inputs_of l.noted-items);
}

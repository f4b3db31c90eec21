use Rattle.std.proofs.Common.{◌≡◌, max}
use Rattle.std.specs.List.{range_with_len}
use Rattle.event_graph.specs.GreatestValue.{greatest}
use Rattle.station_step.specs.Noted.{inputs_of, extras_of}
use Rattle.station_step.specs.RingInputs.{ring_asks}
use Rattle.station_step.proofs.RingInputs.{GaveUpTo}
use Rattle.station_step.proofs.ring_inputs.take_rings.Given as goal

abbrev pub invariant-loop-noted : goal.invariant-loop-noted
invariant-loop-noted l = record {
  extras : extras_of l.noted-items ≡ extras_of l.fn.inputs.items;
  gave : GaveUpTo l.noted-index (inputs_of l.fn.inputs.items) (inputs_of l.noted-items);
  date : l.latest ≡ max l.fn.date (greatest (ring_asks (extras_of l.fn.inputs.items) (inputs_of l.fn.inputs.items) (inputs_of l.noted-items)) (range_with_len 0 l.noted-index));
}

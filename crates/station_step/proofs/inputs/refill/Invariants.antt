use Rattle.std.proofs.Common.{◌≡◌}
use Rattle.std.specs.List.{range_with_len}
use Rattle.event_graph.specs.GreatestValue.{greatest}
use Rattle.station_step.specs.Noted.{inputs_of, extras_of}
use Rattle.station_step.specs.Refilled.{hand_asks}
use Rattle.station_step.proofs.RefilledHands.{RefilledUpTo, IsFirstEmpty, IsLastEmpty}
use Rattle.station_step.proofs.inputs.refill.Given as goal

abbrev pub invariant-loop-k : goal.invariant-loop-k
invariant-loop-k l = record {
  extras : extras_of l.noted-items ≡ extras_of l.fn.inputs.items;
  logs : l.shelf.logs ≡ l.initial.shelf.logs;
  sources : l.shelf.sources ≡ l.initial.shelf.sources;
  refilled : RefilledUpTo l.k l.initial.shelf.queues l.shelf.queues (inputs_of l.fn.inputs.items) (inputs_of l.noted-items);
  found : IsFirstEmpty l.k l.first (inputs_of l.noted-items);
  last : IsLastEmpty l.k l.first l.last (inputs_of l.noted-items);
  date : l.latest ≡ greatest (hand_asks (extras_of l.noted-items) (inputs_of l.noted-items)) (range_with_len 0 l.k);
}

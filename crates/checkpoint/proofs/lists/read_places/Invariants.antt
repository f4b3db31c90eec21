use Rattle.std.proofs.Common.{◌≡◌, length}
use Rattle.std.specs.Prelude.{vec_capacity}
use Rattle.line_base.specs.Roomy.{dates_of}
use Rattle.event_graph.specs.Network.{arc_count}
use Rattle.checkpoint.specs.Reading.{HasReadPlaces}
use Rattle.checkpoint.proofs.lists.read_places.Given as goal

abbrev pub invariant-loop-a : goal.invariant-loop-a
invariant-loop-a l = record {
  read : HasReadPlaces l.format l.graph (dates_of l.logs) l.a l.counts.items l.wrong l.initial.reader l.reader;
  text : l.reader.text ≡ l.initial.reader.text;
  counted : length l.counts.items ≡ l.a;
  room : vec_capacity l.counts ≡ arc_count l.graph;
}

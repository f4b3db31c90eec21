use Rattle.std.proofs.Common.{◌≡◌, ◌+◌, ◌<◌, ◌≤◌, ℕ, length, vec_capacity}
use Rattle.station_step.specs.Shelf.{log_on}
use Rattle.line_worker.specs.Team.{member}
use Rattle.line_setup.specs.Making.{AreNewStations, SameStationsFrom}
use Rattle.line_setup.proofs.making.new_stations.Given as goal

abbrev pub invariant-loop-t : goal.invariant-loop-t
invariant-loop-t l = record {
  count : l.first + length l.made.items ≡ l.t;
  made : AreNewStations l.live.graph l.state.state l.first l.initial.ends l.made.items;
  logs : (i : ℕ) → i < length l.made.items → (member l.made.items i).log ≡ log_on l.logs.items i;
  rest : SameStationsFrom l.t l.initial.ends l.ends;
  shelves : l.ends.shelves ≡ l.initial.ends.shelves;
  arcs : l.ends.arcs ≡ l.initial.ends.arcs;
  room : l.next ≤ l.first + vec_capacity l.made;
}

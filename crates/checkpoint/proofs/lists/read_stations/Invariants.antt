use Rattle.std.proofs.Common.{◌≡◌, ◌≤◌, length}
use Rattle.std.specs.Prelude.{All}
use Rattle.line_base.specs.Roomy.{RoomyLog}
use Rattle.event_graph.specs.Network.{stations, jobs}
use Rattle.checkpoint.specs.Reading.{HasReadLogs}
use Rattle.checkpoint.proofs.lists.read_stations.Given as goal

abbrev pub invariant-loop-t : goal.invariant-loop-t
invariant-loop-t l = record {
  read : HasReadLogs l.format l.graph l.t l.logs l.long l.reader;
  text : l.reader.text ≡ l.initial.reader.text;
  counted : length l.logs.logs ≡ l.t;
  list_room : l.logs.room ≡ stations l.graph;
  room : All (λ (log : RoomyLog). jobs l.graph ≤ log.room) l.logs.logs;
}

use Rattle.std.proofs.Common.{◌≡◌, ◌≤◌, length, vec_capacity}
use Rattle.event_graph.specs.Network.{stations}
use Rattle.line_worker.specs.Share.{first_of}
use Rattle.line_setup.specs.Making.{AreNewTeams, SameStationsFrom, SameShelvesFrom}
use Rattle.line_setup.proofs.making.new_teams.Given as goal

abbrev pub invariant-loop-worker_number : goal.invariant-loop-worker_number
invariant-loop-worker_number l = record {
  count : length l.teams.items ≡ l.worker_number;
  teams : AreNewTeams l.live.graph l.state.state l.worker_count l.initial.ends l.teams.items;
  rest : SameStationsFrom (first_of l.worker_count (stations l.live.graph) l.worker_number) l.initial.ends l.ends;
  shelves : SameShelvesFrom l.worker_number l.initial.ends l.ends;
  room : l.worker_count ≤ vec_capacity l.teams;
}

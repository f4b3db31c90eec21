-- The line that workers stand for, and workers at rest.
use Rattle.std.specs.Prelude.{ℕ, ◌≤◌, List, map, length}
use Rattle.std.specs.List.{range_with_len}
use Rattle.line_base.specs.Limits.{most_workers}
use Rattle.line_base.specs.declared.event.Parts.{Parts}
use Rattle.event_graph.specs.Network.{stations}
use Rattle.line_worker.specs.Team.{WorkTeam}
use Rattle.line_worker.specs.Teams.{station_of, state_among, AreAllMet}
use Rattle.line_worker.specs.Worker.{LineWorker, teams_of}
use Rattle.line_worker.specs.Work.{turns_of}
use Rattle.line_worker.specs.Workers.{live_of, graph_of, room_of, AreWorkers}
use Rattle.line_workers.specs.Line.{WorkLine, KeepsPace}

-- the turns of the stations of some teams
abbrev pub turns_among : Parts → List WorkTeam → List ℕ
turns_among g teams = map (λ t. turns_of (station_of g teams t)) (range_with_len 0 (stations g))

-- the line of these workers
abbrev pub line_of : List LineWorker → ℕ → WorkLine
line_of workers made = record {
  live = live_of workers;
  state = state_among (graph_of workers) (teams_of workers);
  turns = turns_among (graph_of workers) (teams_of workers);
  worker_count = length workers;
  room = room_of workers;
  made = made;
}

-- the workers of a line at rest: every queue was met
pub record AreAtRest (workers : List LineWorker) (made : ℕ) : Type 0 where
  pub whole : AreWorkers workers
  pub few : length workers ≤ most_workers
  pub met : AreAllMet (graph_of workers) (teams_of workers)
  pub pace : KeepsPace (line_of workers made)

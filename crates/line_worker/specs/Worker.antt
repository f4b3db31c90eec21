-- What contracts see of a worker: its team, the line that it belongs to, and the order in which its stations step.
use Rattle.std.specs.Prelude.{◌≡◌, ℕ, ◌+◌, ◌<◌, ◌≤◌, List, [], Option, map, length, slice_index}
use Rattle.line_base.specs.Limits.{most_workers}
use Rattle.line_base.specs.Roomy.{RoomyLogs}
use Rattle.event_graph.specs.Network.{stations, jobs}
use Rattle.event_graph.specs.State.{State}
use Rattle.event_graph.specs.Reached.{Reached}
use Rattle.live_check.specs.Order.{LiveGraph, IsRanked}
use Rattle.line_worker.specs.Share.{first_of}
use Rattle.line_worker.specs.Team.{WorkTeam, IsTeam}
use Rattle.line_worker.specs.Teams.{index_in}

-- what contracts see of a `Worker`
pub record LineWorker : Type 0 where
  pub live : LiveGraph  -- the graph that the line was made for, and the ranks of its stations
  pub begun : State  -- the state with which the line began
  pub worker_count : ℕ  -- how many workers the line has
  pub room : Option ℕ  -- how much room a ring has beyond the tokens with which its arc starts; none: no bound
  pub worker_number : ℕ  -- which of them this is
  pub first : ℕ  -- the number of its first station
  pub team : WorkTeam
  pub target : ℕ  -- how many dates each station makes
  pub order : List ℕ  -- in which its stations step, each by its number in the team
  pub spare : RoomyLogs  -- where the logs go when the line is closed

-- the worker with these parts
abbrev pub seen_worker : LiveGraph → State → ℕ → Option ℕ → ℕ → ℕ → WorkTeam → ℕ → List ℕ → RoomyLogs → LineWorker
seen_worker live begun worker_count room worker_number first team target order spare = record {
  live = live;
  begun = begun;
  worker_count = worker_count;
  room = room;
  worker_number = worker_number;
  first = first;
  team = team;
  target = target;
  order = order;
  spare = spare;
}

-- each of this many stations, from the first on, is listed once, in the order of their ranks
pub record IsOrder (ranks : List ℕ) (first count : ℕ) (order : List ℕ) : Type 0 where
  pub exists : (p : ℕ) → p < length order → slice_index order p < count
  pub listed : (i : ℕ) → i < count → index_in order i < length order
  pub rises : (p q : ℕ) → p < q → q < length order →
      slice_index ranks (first + slice_index order p) < slice_index ranks (first + slice_index order q)

-- the line began with a reached state of a live graph, and the worker has the stations of its number
pub record IsWorker (c : LineWorker) : Type 0 where
  pub ranked : IsRanked c.live
  pub reached : Reached c.live.graph c.begun
  pub exists : c.worker_number < c.worker_count
  pub few : c.worker_count ≤ most_workers
  pub starts : c.first ≡ first_of c.worker_count (stations c.live.graph) c.worker_number
  pub ends : c.first + length c.team.stations ≡ first_of c.worker_count (stations c.live.graph) (c.worker_number + 1)
  pub members : IsTeam c.live.graph c.begun c.first c.team
  pub in_order : IsOrder c.live.ranks c.first (length c.team.stations) c.order
  pub target : c.target ≡ jobs c.live.graph
  pub spare : c.spare.logs ≡ []
  pub spare_room : stations c.live.graph ≤ c.spare.room

-- the same worker with another team
abbrev pub with_team : LineWorker → WorkTeam → LineWorker
with_team c team = record c { team = team }

-- the teams of workers
abbrev pub teams_of : List LineWorker → List WorkTeam
teams_of workers = map (λ worker. worker.team) workers

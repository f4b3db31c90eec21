-- The workers of a line in the making, one after the other, each with the team that was made for it.
use Rattle.std.specs.Prelude.{◌≡◌, ℕ, ◌<◌, List, Option, drop, length}
use Rattle.event_graph.specs.State.{State}
use Rattle.live_check.specs.Order.{LiveGraph}
use Rattle.line_worker.specs.Team.{WorkTeam}
use Rattle.line_worker.specs.Teams.{team_at, AreAllMet, HaveBegun}
use Rattle.line_worker.specs.Worker.{LineWorker, IsWorker, teams_of}
use Rattle.line_worker.specs.Workers.{worker_at, live_of, begun_of, room_of, AreWorkers}

-- what a new worker is
pub record IsNewWorker (live : LiveGraph) (begun : State) (worker_count : ℕ) (room : Option ℕ) (worker_number : ℕ)
    (team : WorkTeam) (c : LineWorker) : Type 0 where
  pub worker : IsWorker c
  pub live_is : c.live ≡ live
  pub begun_is : c.begun ≡ begun
  pub workers_are : c.worker_count ≡ worker_count
  pub room_is : c.room ≡ room
  pub worker_is : c.worker_number ≡ worker_number
  pub team_is : c.team ≡ team

-- the workers of a line that begins with this state
pub record AreNewWorkers (live : LiveGraph) (begun : State) (worker_count : ℕ) (room : Option ℕ)
    (workers : List LineWorker) : Type 0 where
  pub count : length workers ≡ worker_count
  pub whole : AreWorkers workers
  pub live_is : live_of workers ≡ live
  pub begun_is : begun_of workers ≡ begun
  pub room_is : room_of workers ≡ room
  pub met : AreAllMet live.graph (teams_of workers)
  pub new : HaveBegun live.graph begun (teams_of workers)

-- this many of them are made
pub record AreMakingWorkers (live : LiveGraph) (begun : State) (worker_count : ℕ) (room : Option ℕ)
    (teams left : List WorkTeam) (workers : List LineWorker) (made : ℕ) : Type 0 where
  pub count : length workers ≡ made
  pub left_is : left ≡ drop made teams
  pub each : (w : ℕ) → w < made → IsNewWorker live begun worker_count room w (team_at teams w) (worker_at workers w)

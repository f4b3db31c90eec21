-- What the meeting of all workers on one thread does: every queue is met, and nothing else changes.
use Rattle.std.specs.Prelude.{◌≡◌, ◌≢◌, ℕ, ◌<◌, List, slice_index}
use Rattle.line_base.specs.declared.event.Parts.{Parts}
use Rattle.event_graph.specs.Network.{stations, arc_count}
use Rattle.live_check.specs.Order.{LiveGraph}
use Rattle.line_worker.specs.Team.{WorkTeam}
use Rattle.line_worker.specs.Teams.{station_of, IsMetOn}
use Rattle.line_worker.specs.Worker.{LineWorker, teams_of}
use Rattle.line_worker.specs.Work.{TeamsWorked, turns_of}
use Rattle.line_worker.specs.Workers.{live_of, AreWorkers, AreSameWorkers}

-- no station made a date or a turn
pub record AreStill (g : Parts) (old new : List WorkTeam) : Type 0 where
  pub logs : (t : ℕ) → t < stations g → (station_of g new t).log ≡ (station_of g old t).log
  pub turns : (t : ℕ) → t < stations g → turns_of (station_of g new t) ≡ turns_of (station_of g old t)

-- the queue of arc a was met, and each that was met stays so
pub record MeetsOn (g : Parts) (old new : List WorkTeam) (a : ℕ) : Type 0 where
  pub worked : TeamsWorked old new
  pub still : AreStill g old new
  pub met : IsMetOn g new a
  pub others : (b : ℕ) → b < arc_count g → b ≢ a → IsMetOn g old b → IsMetOn g new b

-- the queues of some arcs were met
pub record IsMeeting (live : LiveGraph) (old now : List LineWorker) (Some : ℕ → Type 0) : Type 0 where
  pub whole : AreWorkers now
  pub live_is : live ≡ live_of now
  pub same : AreSameWorkers old now
  pub worked : TeamsWorked (teams_of old) (teams_of now)
  pub still : AreStill live.graph (teams_of old) (teams_of now)
  pub met : (b : ℕ) → b < arc_count live.graph → Some b → IsMetOn live.graph (teams_of now) b

-- the arc stands among the first this many of a list
pub record IsAmong (arcs : List ℕ) (count b : ℕ) : Type 0 where
  pub number : ℕ
  pub low : number < count
  pub at : slice_index arcs number ≡ b

-- Gathering the workers of a line after their sweeps.
use Rattle.std.specs.Prelude.{◌≡◌, ℕ, ◌<◌, List, length}
use Rattle.live_check.specs.Order.{LiveGraph}
use Rattle.line_worker.specs.Teams.{state_among}
use Rattle.line_worker.specs.Worker.{LineWorker, teams_of}
use Rattle.line_worker.specs.Work.{TeamWorked}
use Rattle.line_worker.specs.Workers.{worker_at, graph_of, room_of, IsSameWorker}
use Rattle.line_workers.specs.Line.{StandsIn}
use Rattle.line_workers.specs.OfWorkers.{line_of, AreAtRest}

-- the logs of the stations of all workers, in the order of their numbers
abbrev pub logs_in : List LineWorker → List (List ℕ)
logs_in workers = (state_among (graph_of workers) (teams_of workers)).logs

-- what a worker is after some sweeps
pub record IsWorkerAfter (old new : LineWorker) : Type 0 where
  pub same : IsSameWorker old new
  pub worked : TeamWorked old.team new.team

-- what the workers of a line are after some sweeps of each
pub record AreWorkersAfter (old new : List LineWorker) : Type 0 where
  pub count : length new ≡ length old
  pub each : (w : ℕ) → w < length old → IsWorkerAfter (worker_at old w) (worker_at new w)

-- the workers of a line that is made of these, where this many firings had been made: each queue was met, no log has
-- changed, and the turns count from 0
pub record Gathers (live : LiveGraph) (workers gathered : List LineWorker) (made : ℕ) : Type 0 where
  pub rest : AreAtRest gathered made
  pub logs : (line_of gathered made).state.logs ≡ logs_in workers
  pub stands : StandsIn (room_of workers) live (line_of gathered made).state (length workers) (line_of gathered made)

-- The teams of a list of workers.
use Rattle.std.proofs.Common.{◌≡◌, ℕ, ◌<◌, List, [], length}
use Rattle.std.proofs.lemmas.List.{length-map, get_or-map}
use Rattle.line_worker.specs.Teams.{team_at}
use Rattle.line_worker.specs.Worker.{LineWorker, teams_of}
use Rattle.line_worker.specs.Workers.{worker_at, no_worker}

pub count-teams : (workers : List LineWorker) → length (teams_of workers) ≡ length workers
count-teams workers = length-map workers (λ (c : LineWorker). c.team)

pub team_at-workers : (workers : List LineWorker) (w : ℕ) → w < length workers → team_at (teams_of workers) w ≡ (worker_at workers w).team
team_at-workers workers w there = get_or-map (λ (c : LineWorker). c.team) workers w no_worker (record { stations = []; shelf = [] }) there

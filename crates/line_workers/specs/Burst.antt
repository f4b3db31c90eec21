-- What a burst of all workers does.
use Rattle.std.specs.Prelude.{◌≡◌, ℕ, ◌+◌, ◌<◌, ◌≤◌, ◌⊎◌, List, take, min, length}
use Rattle.line_base.specs.declared.event.Parts.{Parts}
use Rattle.event_graph.specs.Network.{stations, jobs}
use Rattle.station_step.specs.Step.{IsReady}
use Rattle.line_worker.specs.Share.{worker_of}
use Rattle.line_worker.specs.Team.{WorkTeam}
use Rattle.line_worker.specs.Teams.{station_of, shelf_of, AreAllMet}
use Rattle.line_worker.specs.Worker.{LineWorker, teams_of}
use Rattle.line_worker.specs.Work.{dates_of, turns_of}
use Rattle.line_worker.specs.Sweeps.{most_sweeps}
use Rattle.line_worker.specs.Workers.{graph_of, AreWorkers, AreSameWorkers}

-- what became of station t of the teams
pub record StationBurst (g : Parts) (old new : List WorkTeam) (t : ℕ) : Type 0 where
  pub kept : take (dates_of (station_of g old t)) (station_of g new t).log.dates ≡ (station_of g old t).log.dates
  pub turned : turns_of (station_of g old t) ≤ turns_of (station_of g new t)
  pub steps : dates_of (station_of g new t) + turns_of (station_of g old t) ≤
      dates_of (station_of g old t) + turns_of (station_of g new t)
  pub few : turns_of (station_of g new t) ≤ turns_of (station_of g old t) + most_sweeps
  pub fired : IsReady (shelf_of g old t) (station_of g old t) →
      dates_of (station_of g old t) < dates_of (station_of g new t)

-- every station of the graph has made all of its dates
abbrev pub AllMade : Parts → List WorkTeam → Type 0
AllMade g teams = (t : ℕ) → t < stations g → dates_of (station_of g teams t) ≡ jobs g

-- each station of the graph has made this many dates
abbrev pub EachMade : Parts → List WorkTeam → ℕ → Type 0
EachMade g teams times = (t : ℕ) → t < stations g → dates_of (station_of g teams t) ≡ times

-- each station has made as many turns more as dates
abbrev pub TurnsAsDates : Parts → List WorkTeam → List WorkTeam → Type 0
TurnsAsDates g old new = (t : ℕ) → t < stations g →
    turns_of (station_of g new t) + dates_of (station_of g old t) ≡
    turns_of (station_of g old t) + dates_of (station_of g new t)

-- the worker of station t, one of this many, gave each of its stations as many turns as the others, and as many as a
-- burst has sweeps, or fewer where all of them are done
pub record WorkerBurst (g : Parts) (worker_count : ℕ) (old new : List WorkTeam) (t : ℕ) : Type 0 where
  pub even : (u : ℕ) → u < stations g → worker_of worker_count (stations g) u ≡ worker_of worker_count (stations g) t →
      turns_of (station_of g new u) + turns_of (station_of g old t) ≡
      turns_of (station_of g new t) + turns_of (station_of g old u)
  pub ended : ((u : ℕ) → u < stations g →
      worker_of worker_count (stations g) u ≡ worker_of worker_count (stations g) t →
      dates_of (station_of g new u) ≡ jobs g) ⊎
      (turns_of (station_of g new t) ≡ turns_of (station_of g old t) + most_sweeps)

-- all workers have worked and every queue was met
pub record WorkersBurst (old new : List LineWorker) : Type 0 where
  pub whole : AreWorkers new
  pub same : AreSameWorkers old new
  pub met : AreAllMet (graph_of old) (teams_of new)
  pub each : (t : ℕ) → t < stations (graph_of old) → StationBurst (graph_of old) (teams_of old) (teams_of new) t
  pub workers : (t : ℕ) → t < stations (graph_of old) →
      WorkerBurst (graph_of old) (length old) (teams_of old) (teams_of new) t
  pub idle : AllMade (graph_of old) (teams_of old) → (t : ℕ) → t < stations (graph_of old) →
      turns_of (station_of (graph_of old) (teams_of new) t) ≡ turns_of (station_of (graph_of old) (teams_of old) t)
  pub alone : length old ≡ 1 → (times : ℕ) → times ≤ jobs (graph_of old) →
      EachMade (graph_of old) (teams_of old) times →
      EachMade (graph_of old) (teams_of new) (min (times + most_sweeps) (jobs (graph_of old)))
  pub alone_turns : length old ≡ 1 → (times : ℕ) → times ≤ jobs (graph_of old) →
      EachMade (graph_of old) (teams_of old) times →
      TurnsAsDates (graph_of old) (teams_of old) (teams_of new)

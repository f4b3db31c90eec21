-- When a worker may sweep in a thread of its own.
use Rattle.std.specs.Prelude.{◌≡◌, ℕ, ◌^◌, ◌<◌, ◌≤◌, length}
use Rattle.std.specs.List.{Any}
use Rattle.live_check.specs.Order.{LiveGraph}
use Rattle.line_worker.specs.Worker.{LineWorker, IsWorker}
use Rattle.line_worker.specs.Team.{WorkTeam, member}
use Rattle.line_worker.specs.Work.{turns_of, AllDone, TurnsBelow}
use Rattle.line_runs.specs.declared.scheduler.sweeping.Patience.{Patience}
use Rattle.line_runs.specs.declared.scheduler.sweeping.Patience.TheVariants.{Endless, Sweeps}

-- the worker is of a line that was made for this
pub record IsWorkerFor (live : LiveGraph) (c : LineWorker) : Type 0 where
  pub worker : IsWorker c
  pub live_is : live ≡ c.live

-- no station of the team has made more turns than this, and one has made as many, where it is more than none
pub record IsMostTurns (team : WorkTeam) (turns : ℕ) : Type 0 where
  pub most : (i : ℕ) → i < length team.stations → turns_of (member team.stations i) ≤ turns
  pub one : 0 < turns → Any (λ station. turns_of station ≡ turns) team.stations

-- some station of the worker is not done, and none has made 2^39 turns
pub record MaySweep (c : LineWorker) : Type 0 where
  pub undone : ¬ AllDone c.target c.team
  pub turns : TurnsBelow (2 ^ 39) c.team

-- with this patience a worker that has made as many idle sweeps waits no longer
abbrev pub IsExceeded : Patience → ℕ → Type 0
IsExceeded Endless made = ⊥
IsExceeded (Sweeps most) made = most < made

-- Where a run ends that is asked to stop at N firings: at the first burst's end with N, by bursts of the workers that
-- were asked for.
use Rattle.std.specs.Prelude.{◌≡◌, ◌⊎◌, ℕ, List, Some}
use Rattle.command_line.specs.Sources.{plant_at}
use Rattle.command_line.specs.Words.{command_of}
use Rattle.command_line.specs.declared.command.Command.TheVariants.{Stopping}
use Rattle.command_line.specs.declared.command.Stop.{Stop}
use Rattle.commands.specs.FirstEnd.{IsFirstEnd, IsDoneFirst}
use Rattle.line_core.specs.Consistent.{firing_count}
use Rattle.line_runs.specs.Headline.{MayBeResumed}
use Rattle.line_runs.specs.Stop.{IsShort, IsStopAt}
use Rattle.live_plant.specs.Outside.{StoreOver, SinkOver}
use Rattle.plant_model.specs.Graph.{graph}
use Rattle.plant_model.specs.declared.plant.Plant.{Plant}
use Rattle.pull_cli.specs.RunReports.{IsPlantRead, HasReported}
use Rattle.pull_cli.specs.StopsAndResumes.{HasSaved}

-- it has saved the state at the first burst's end with N firings, soon after N, from which it may be resumed
pub record SavesFirstEnd (p : Plant) (workers : ℕ) (stop : Stop) (store : StoreOver) (sink : SinkOver) : Type 0 where
  pub saved : HasSaved p stop store sink
  pub resumed : MayBeResumed (graph p) saved.state
  pub first_end : IsFirstEnd (graph p) stop.after workers saved.state
  pub count : IsStopAt (graph p) stop.after 0 (firing_count saved.state)

-- it has written the report, since at no burst's end before that N firings were made
pub record ReportsFirst (p : Plant) (workers n : ℕ) (sink : SinkOver) : Type 0 where
  pub reported : HasReported p sink
  pub first : IsDoneFirst (graph p) n workers
  pub short : IsShort (graph p) n 0

-- the one or the other
pub record EndsWhereAsked (name : List ℕ) (workers : ℕ) (stop : Stop) (store : StoreOver) (sink : SinkOver) : Type 0 where
  pub plant : Plant
  pub read : IsPlantRead plant name store
  pub done : ReportsFirst plant workers stop.after sink ⊎ SavesFirstEnd plant workers stop store sink

-- a run of this many workers that is asked to stop and ends with status 0
abbrev pub StopsWhereAsked : List (List ℕ) → StoreOver → SinkOver → ℕ → Type 0
StopsWhereAsked words store sink status =
    (name : List ℕ) (workers : ℕ) (stop : Stop) → command_of words ≡ Some (Stopping (plant_at name) workers stop) →
    status ≡ 0 → EndsWhereAsked name workers stop store sink

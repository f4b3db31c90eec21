-- Which file a call may change: FILE of a run that is asked to stop, and no other. Of the machine two files more are
-- made by runs for themselves: the spare one beside FILE, which then takes its name, and `pull.slots`. Words and plant
-- files can name neither, since the name of a plant, a table, a schedule or edits doesn't end in `.ckpt.new` and isn't
-- `pull.slots`, and that of a checkpoint ends in `.ckpt` (`is_file_name` and `is_checkpoint_name` of `line_base`). So no
-- file that a call reads or writes by its name is one of these, by the names alone (`spares_are_no_files` of
-- `outside_io`), and that others stay is so of every file of the machine that a call can name.
use Rattle.std.specs.Prelude.{◌≡◌, ◌≢◌, ◌⊎◌, ℕ, List, IsTrue, Option, Some, None}
use Rattle.commands.specs.FirstEnd.{IsFirstEnd}
use Rattle.command_line.specs.Sources.{plant_at}
use Rattle.command_line.specs.Words.{command_of}
use Rattle.command_line.specs.declared.command.Command.{Command}
use Rattle.command_line.specs.declared.command.Command.TheVariants as command
use Rattle.command_line.specs.declared.command.Stop.{Stop}
use Rattle.event_graph.specs.State.{State}
use Rattle.line_core.specs.Consistent.{firing_count}
use Rattle.outside_io.specs.Contents.{IsTorn}
use Rattle.outside_io.specs.SinkView.{PutsAll}
use Rattle.line_runs.specs.Headline.{MayBeResumed}
use Rattle.line_runs.specs.Stop.{IsStopAt}
use Rattle.plant_model.specs.declared.plant.Plant.{Plant}
use Rattle.plant_model.specs.Graph.{graph}
use Rattle.live_plant.specs.Outside.{StoreOver, SinkOver}
use Rattle.pull_cli.specs.RunReports.{IsPlantRead}
use Rattle.pull_cli.specs.StopsAndResumes.{saved_text, stopped_line}

-- FILE, where the words ask to save in it
abbrev pub save_of : Option Command → Option (List ℕ)
save_of (Some (command.Stopping plant workers stop)) = Some stop.save
save_of other = None

-- what a run that stopped leaves of FILE: with status 0 these bytes, and with 5 or 6 what was there or a prefix of them
abbrev pub LeavesSaved : ℕ → Option (List ℕ) → Option (List ℕ) → List ℕ → Type 0
LeavesSaved status old new bytes =
    ((status ≡ 0) × (new ≡ Some bytes)) ⊎ (((status ≡ 5) ⊎ (status ≡ 6)) × IsTorn old new bytes)

-- The run of this plant file by this many workers stopped at the first burst's end with N firings, in a state from
-- which it may be resumed, and left this of FILE. With status 0 it wrote that it stopped.
pub record StopsAndSaves (name : List ℕ) (workers : ℕ) (stop : Stop) (store : StoreOver) (sink : SinkOver)
    (status : ℕ) : Type 0 where
  pub plant : Plant
  pub read : IsPlantRead plant name store
  pub state : State
  pub stopped : MayBeResumed (graph plant) state
  pub first_end : IsFirstEnd (graph plant) stop.after workers state
  pub count : IsStopAt (graph plant) stop.after 0 (firing_count state)
  pub leaves : LeavesSaved status (store.old.files stop.save) (store.new.files stop.save)
      (saved_text plant state)
  pub says : status ≡ 0 → PutsAll sink.old sink.new (stopped_line (firing_count state))

-- FILE is as it was, or the run stopped
abbrev pub StaysOrSaves : List ℕ → ℕ → Stop → StoreOver → SinkOver → ℕ → Type 0
StaysOrSaves name workers stop store sink status =
    (store.new.files stop.save ≡ store.old.files stop.save) ⊎ StopsAndSaves name workers stop store sink status

-- Where files are known, every file is as it was but FILE of a run that is asked to stop, and with a status other than
-- 0, 5 and 6 FILE too; and FILE is as it was where the run didn't stop.
pub record FilesStay (words : List (List ℕ)) (store : StoreOver) (sink : SinkOver) (status : ℕ) : Type 0 where
  pub others_stay : IsTrue store.tells → (q : List ℕ) → save_of (command_of words) ≢ Some q
      → store.new.files q ≡ store.old.files q
  pub file_stays : IsTrue store.tells → (q : List ℕ) → save_of (command_of words) ≡ Some q
      → status ≢ 0 → status ≢ 5 → status ≢ 6 → store.new.files q ≡ store.old.files q
  pub stays_or_saves : IsTrue store.tells → (name : List ℕ) (workers : ℕ) (stop : Stop)
      → command_of words ≡ Some (command.Stopping (plant_at name) workers stop)
      → StaysOrSaves name workers stop store sink status

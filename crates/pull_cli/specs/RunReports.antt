-- The first half of the headline. For every plant file, number of workers and interleaving of their steps, a run that
-- isn't asked to stop and ends with status 0 has written exactly the report of the least solution of the policy's
-- equations.
use Rattle.std.specs.Prelude.{◌≡◌, ℕ, List, ◌++◌, IsTrue, Option, Some, None, Ok}
use Rattle.command_line.specs.Words.{command_of}
use Rattle.command_line.specs.declared.command.Command.{Command}
use Rattle.command_line.specs.declared.command.Command.TheVariants as command
use Rattle.command_line.specs.declared.file_question.FileQuestion.TheVariants as of_file
use Rattle.command_line.specs.declared.plant_question.PlantQuestion.TheVariants as of_plant
use Rattle.event_graph.specs.Least.{IsLeast}
use Rattle.event_graph.specs.Live.{IsLive}
use Rattle.event_graph.specs.Table.{date_in}
use Rattle.outside_io.specs.Calls.{Read}
use Rattle.outside_io.specs.SinkView.{PutsAll}
use Rattle.line_report.specs.ReportText.{report}
use Rattle.live_plant.specs.Outside.{StoreOver, SinkOver}
use Rattle.live_plant.specs.PlantSteps.{OfPlantFile}
use Rattle.plant_file.specs.PlantOfFiles.{plant_of}
use Rattle.plant_model.specs.Graph.{graph}
use Rattle.plant_model.specs.declared.plant.Plant.{Plant}

-- the plant file of a command that runs a plant and isn't asked to stop
abbrev pub run_of : Command → Option (List ℕ)
run_of (command.OnPlant plant (of_plant.Run workers)) = Some plant.file
run_of (command.OnPlant plant (of_plant.RunRoom room workers)) = Some plant.file
run_of (command.OnFile plant saved (of_file.Resume workers)) = Some plant.file
run_of (command.Standing plant workers) = Some plant.file
run_of (command.OnDisk plant question) = Some plant.file
run_of other = None

-- "the plant file": the plant of the bytes that were read from its files, which is live; and that of the files, where
-- they are known
pub record IsPlantRead (p : Plant) (name : List ℕ) (store : StoreOver) : Type 0 where
  pub reads : List Read
  pub more : List Read
  pub asked : store.new.asked.reads ≡ store.old.asked.reads ++ (reads ++ more)
  pub answers : OfPlantFile name reads (Ok p)
  pub live : IsLive (graph p)
  pub of_files : IsTrue store.tells → plant_of name store.old.files ≡ Ok p

-- "has written exactly the report of the least solution of the policy's equations"
pub record HasReported (p : Plant) (sink : SinkOver) : Type 0 where
  pub rows : List (List ℕ)
  pub least : IsLeast (graph p) (date_in rows)
  pub written : PutsAll sink.old sink.new (report p (date_in rows))

-- so has a run of this plant file
pub record Reports (name : List ℕ) (store : StoreOver) (sink : SinkOver) : Type 0 where
  pub plant : Plant
  pub read : IsPlantRead plant name store
  pub reported : HasReported plant sink

-- "a run that isn't asked to stop and ends with status 0"
abbrev pub RunReports : List (List ℕ) → StoreOver → SinkOver → ℕ → Type 0
RunReports words store sink status =
    (asked : Command) (name : List ℕ) → command_of words ≡ Some asked → run_of asked ≡ Some name → status ≡ 0 →
    Reports name store sink

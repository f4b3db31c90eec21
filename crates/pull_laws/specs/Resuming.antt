-- The law on two calls: a run that stopped and saved, and the call that resumes it. The second writes the report of the
-- same plant, which every run of the plant writes that never stops.
use Rattle.std.specs.Prelude.{◌≡◌, ℕ, List, IsTrue, Some, None}
use Rattle.command_line.specs.Sources.{plant_at}
use Rattle.command_line.specs.Words.{asking, command_of, resuming}
use Rattle.command_line.specs.declared.command.Command.{Command}
use Rattle.command_line.specs.declared.command.Command.TheVariants.{Stopping}
use Rattle.command_line.specs.declared.command.Stop.{Stop}
use Rattle.command_line.specs.declared.plant_question.PlantQuestion.TheVariants.{Run}
use Rattle.outside_io.specs.Contents.{Contents}
use Rattle.outside_io.specs.Faults.{Rose}
use Rattle.outside_io.specs.SinkView.{PutsAll}
use Rattle.plant_model.specs.declared.plant.Plant.{Plant}
use Rattle.live_plant.specs.Actions.{DiskOver}
use Rattle.live_plant.specs.Outside.{StoreOver, SinkOver}
use Rattle.pull_cli.specs.Ends.{Ends}
use Rattle.pull_cli.specs.RunReports.{IsPlantRead, HasReported}
use Rattle.pull_cli.specs.StopsAndResumes.{HasSaved}

-- a call of `pull`: its words, its store, sink and disk, and the status that it ended with
pub record Call : Type 0 where
  pub words : List (List ℕ)
  pub store : StoreOver
  pub sink : SinkOver
  pub disk : DiskOver
  pub status : ℕ

-- the files of a call's store, before it and after it
abbrev pub files_before : Call → Contents
files_before call = call.store.old.files

abbrev pub files_after : Call → Contents
files_after call = call.store.new.files

-- a call for this command, over a store whose files are known; it has ended as every call of `pull` does
pub record CallsFor (command : Command) (call : Call) : Type 0 where
  pub asked : command_of call.words ≡ Some command
  pub known : IsTrue call.store.tells
  pub ends : Ends call.words call.store call.sink call.disk call.status

-- A run of the plant file that was asked to stop, a call as this says of a command, has ended with status 0, and has
-- written a state of this plant into FILE.
pub record StopsBy (IsFor : Command → Call → Type 0) (p : Plant) (name : List ℕ) (stop : Stop)
    (call : Call) : Type 0 where
  pub workers : ℕ
  pub calls : IsFor (Stopping (plant_at name) workers stop) call
  pub status : call.status ≡ 0
  pub read : IsPlantRead p name call.store
  pub saved : HasSaved p stop call.store call.sink

-- over a store whose files are known
abbrev pub HasStopped : Plant → List ℕ → Stop → Call → Type 0
HasStopped = StopsBy CallsFor

-- the second call resumes from the file that the first has saved, by any number of workers, over the files that it left
pub record IsResumedBy (name : List ℕ) (stop : Stop) (first second : Call) : Type 0 where
  pub workers : ℕ
  pub calls : CallsFor (resuming name stop.save workers) second
  pub over : (q : List ℕ) → files_before second q ≡ files_after first q

-- a run of the plant file that isn't asked to stop, over the files that the first call found, has ended with status 0
pub record IsWholeRun (name : List ℕ) (first whole : Call) : Type 0 where
  pub workers : ℕ
  pub calls : CallsFor (asking name (Run workers)) whole
  pub status : whole.status ≡ 0
  pub over : (q : List ℕ) → files_before whole q ≡ files_before first q

-- the count of this file's failed reads rose in the call
abbrev pub HasFailedRead : Call → List ℕ → Type 0
HasFailedRead call file = Rose (call.store.old.read_faults file) (call.store.new.read_faults file)

-- How a call ends that resumes what was saved: with the report, or because a file couldn't be read, the sink failed, or
-- memory ran out.
pub data EndsResumed (p : Plant) (call : Call) : Type 0 where
  reported : call.status ≡ 0 → HasReported p call.sink → EndsResumed p call
  unread : (file : List ℕ) → call.status ≡ 5 → HasFailedRead call file → EndsResumed p call
  unwritten : call.status ≡ 6 → Rose call.sink.old.faults call.sink.new.faults → EndsResumed p call
  no_memory : call.status ≡ 9 → EndsResumed p call

-- the two calls wrote the same bytes
abbrev pub WroteTheSame : Call → Call → Type 0
WroteTheSame one other =
    (bytes : List ℕ) × PutsAll one.sink.old one.sink.new bytes × PutsAll other.sink.old other.sink.new bytes

-- resuming what a run has saved writes the report, or has one of those causes
abbrev pub ResumingReports : Type 0
ResumingReports =
    (p : Plant) (name : List ℕ) (stop : Stop) (first second : Call) →
    HasStopped p name stop first → IsResumedBy name stop first second → EndsResumed p second

-- and the report is the one that a run writes that never stops
abbrev pub ResumingWritesTheSame : Type 0
ResumingWritesTheSame =
    (p : Plant) (name : List ℕ) (stop : Stop) (first second whole : Call) →
    HasStopped p name stop first → IsResumedBy name stop first second → second.status ≡ 0 →
    IsWholeRun name first whole → WroteTheSame second whole

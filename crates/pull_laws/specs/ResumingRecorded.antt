-- The law on two calls, *Resuming writes that same report*, over stores whose files aren't known, as that of the
-- machine: both calls show their reads and writes with the answers, and the second has read what the first has read and
-- written.
use Rattle.std.specs.Prelude.{◌≡◌, ℕ, List, Some, None}
use Rattle.command_line.specs.Words.{asking, command_of, resuming}
use Rattle.command_line.specs.declared.command.Command.{Command}
use Rattle.command_line.specs.declared.command.Stop.{Stop}
use Rattle.command_line.specs.declared.plant_question.PlantQuestion.TheVariants.{Run}
use Rattle.outside_io.specs.Contents.{Contents}
use Rattle.plant_model.specs.declared.plant.Plant.{Plant}
use Rattle.pull_cli.specs.StopsAndResumes.{saved_text}
use Rattle.pull_laws.specs.Recorded.{ReadsFrom, with_file, HasEnded}
use Rattle.pull_laws.specs.Resuming.{Call, StopsBy, EndsResumed, WroteTheSame}

-- a call for this command, over any store, that has ended as every call of `pull` does
pub record EndsFor (command : Command) (call : Call) : Type 0 where
  pub asked : command_of call.words ≡ Some command
  pub ends : HasEnded call

-- over any store, a run of the plant file that was asked to stop has ended with status 0, and has written a state of
-- this plant into FILE
abbrev pub SavesState : Plant → List ℕ → Stop → Call → Type 0
SavesState = StopsBy EndsFor

-- the bytes that it has written
abbrev pub bytes_saved : {p : Plant} {name : List ℕ} {stop : Stop} {call : Call} → SavesState p name stop call → List ℕ
bytes_saved {p} saves = saved_text p saves.saved.state

-- The second call resumes from FILE, by any number of workers. There are files from which every read of the first call
-- was answered, and from which, but that FILE has these bytes, every read of the second was.
pub record ResumesWhatWasRead (name : List ℕ) (stop : Stop) (bytes : List ℕ) (first second : Call) : Type 0 where
  pub workers : ℕ
  pub calls : EndsFor (resuming name stop.save workers) second
  pub files : Contents
  pub first_reads : ReadsFrom files first.store
  pub second_reads : ReadsFrom (with_file files stop.save bytes) second.store

-- A run of the plant file that isn't asked to stop has ended with status 0, and its reads were answered from these
-- files.
pub record RunsWhole (name : List ℕ) (files : Contents) (whole : Call) : Type 0 where
  pub workers : ℕ
  pub calls : EndsFor (asking name (Run workers)) whole
  pub status : whole.status ≡ 0
  pub reads : ReadsFrom files whole.store

-- Resuming what a run has written reports that run's plant; or a file couldn't be read, the sink failed, or memory ran
-- out.
abbrev pub ResumingRecordedReports : Type 0
ResumingRecordedReports =
    (p : Plant) (name : List ℕ) (stop : Stop) (first second : Call) (saves : SavesState p name stop first) →
    ResumesWhatWasRead name stop (bytes_saved saves) first second → EndsResumed p second

-- and the report is the one that a run writes that never stops, over the files that the first call has read
abbrev pub ResumingRecordedWritesTheSame : Type 0
ResumingRecordedWritesTheSame =
    (p : Plant) (name : List ℕ) (stop : Stop) (first second whole : Call) (saves : SavesState p name stop first)
    (resumes : ResumesWhatWasRead name stop (bytes_saved saves) first second) → second.status ≡ 0 →
    RunsWhole name resumes.files whole → WroteTheSame second whole

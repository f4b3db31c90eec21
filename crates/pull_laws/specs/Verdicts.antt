-- The law on verdicts: what a call ends with is what its words and the files decide, and where it goes on from slots
-- what is saved there; but for what nobody decides, faults of the outside and memory that runs out. So where one call
-- ends with status 0, every call for the same words over the same files does that didn't fail: *Completeness*.
use Rattle.std.specs.Prelude.{◌≡◌, ◌⊎◌, ℕ, List, IsTrue, true, Option, Some, None, Result, Ok, Err, All, ⊤}
use Rattle.answers.specs.declared.answer.Answer.{Answer}
use Rattle.command_line.specs.Words.{command_of}
use Rattle.command_line.specs.declared.command.Command.{Command}
use Rattle.command_line.specs.declared.command.Command.TheVariants.{OnDisk}
use Rattle.command_line.specs.declared.disk_question.DiskQuestion.TheVariants as of_disk
use Rattle.line_base.specs.Limits.{most_checkpoint_bytes}
use Rattle.outside_io.specs.Calls.{Read, Asked}
use Rattle.outside_io.specs.Contents.{Contents}
use Rattle.outside_io.specs.Faults.{Rose}
use Rattle.live_plant.specs.Actions.{DiskOver}
use Rattle.live_plant.specs.Outside.{Fits}
use Rattle.live_plant.specs.Refusal.{status_of}
use Rattle.live_plant.specs.declared.refusals.refusal.Refusal.{Refusal}
use Rattle.live_plant.specs.declared.refusals.refusal.Refusal.TheVariants.{Disk, NoMemory, StoreFault}
use Rattle.crash_disk.specs.Crash.{bytes_now}
use Rattle.crash_disk.specs.Layout.{content}
use Rattle.pull_cli.specs.Ends.{Ends}
use Rattle.pull_cli.specs.Verdict.{OfWords}
use Rattle.pull_laws.specs.Resuming.{Call, files_before, HasFailedRead}

-- it is known what the disk holds, and this is saved in its slots: these bytes, or nothing
pub record HoldsSaved (saved : Option (List ℕ)) (disk : DiskOver) : Type 0 where
  pub known : IsTrue disk.tells
  pub holds : content (bytes_now disk.old) most_checkpoint_bytes ≡ saved

-- so it is where a command goes on from slots; what a disk holds decides the status of no other
abbrev pub HoldsForCommand : Command → Option (List ℕ) → DiskOver → Type 0
HoldsForCommand (OnDisk plant (of_disk.ResumeSlots workers)) saved disk = HoldsSaved saved disk
HoldsForCommand other saved disk = ⊤

abbrev pub HoldsFor : Option Command → Option (List ℕ) → DiskOver → Type 0
HoldsFor None saved disk = ⊤
HoldsFor (Some command) saved disk = HoldsForCommand command saved disk

-- the status of an answer
abbrev pub status_in : Result Answer Refusal → ℕ
status_in (Ok answer) = 0
status_in (Err refusal) = status_of refusal

-- a refusal that nobody's words and files decide: a file couldn't be read or written, the disk failed, or memory ran
-- out
abbrev pub IsFree : Refusal → Type 0
IsFree (StoreFault file) = ⊤
IsFree Disk = ⊤
IsFree NoMemory = ⊤
IsFree other = ⊥

-- an answer that words and files decide
abbrev pub IsDecidedAnswer : Result Answer Refusal → Type 0
IsDecidedAnswer (Ok answer) = ⊤
IsDecidedAnswer (Err refusal) = ¬ IsFree refusal

-- the verdict of the words over these files, and what is saved in slots, is this status: the steps of the command
-- answer it over reads that gave what the files hold, where no read and no write failed, nor the disk, and memory
-- didn't run out
pub record HasVerdict (words : List (List ℕ)) (files : Contents) (saved : Option (List ℕ)) (status : ℕ) : Type 0 where
  pub asked : Asked
  pub disk : DiskOver
  pub answer : Result Answer Refusal
  pub of_files : All (λ (read : Read). Fits true files read.name read.answer) asked.reads
  pub of_slots : HoldsFor (command_of words) saved disk
  pub answers : OfWords true files (command_of words) asked disk answer
  pub decided : IsDecidedAnswer answer
  pub status_is : status ≡ status_in answer

-- a call for these words over these files, which are known, and over what is saved in the slots of its disk; it
-- has ended as every call of `pull` does
pub record IsCallOver (words : List (List ℕ)) (files : Contents) (saved : Option (List ℕ)) (call : Call) : Type 0 where
  pub words_are : call.words ≡ words
  pub known : IsTrue call.store.tells
  pub over : (q : List ℕ) → files_before call q ≡ files q
  pub of_slots : HoldsFor (command_of words) saved call.disk
  pub ends : Ends call.words call.store call.sink call.disk call.status

-- the count of this file's failed writes rose in the call
abbrev pub HasFailedWrite : Call → List ℕ → Type 0
HasFailedWrite call file = Rose (call.store.old.write_faults file) (call.store.new.write_faults file)

-- the call ended for a reason outside of its words, files and slots: a file couldn't be read or written, the sink or
-- the disk failed, or memory ran out
pub data HasFailed (call : Call) : Type 0 where
  unread : (file : List ℕ) → call.status ≡ 5 → HasFailedRead call file → HasFailed call
  unsaved : (file : List ℕ) → call.status ≡ 5 → HasFailedWrite call file → HasFailed call
  unwritten : call.status ≡ 6 → Rose call.sink.old.faults call.sink.new.faults → HasFailed call
  disk_failed : call.status ≡ 12 → Rose call.disk.old.faults call.disk.new.faults → HasFailed call
  no_memory : call.status ≡ 9 → HasFailed call

-- words have one verdict over files and slots
abbrev pub HaveOneVerdict : Type 0
HaveOneVerdict =
    (words : List (List ℕ)) (files : Contents) (saved : Option (List ℕ)) (one other : ℕ) →
    HasVerdict words files saved one → HasVerdict words files saved other → one ≡ other

-- every call ends with it, or has failed
abbrev pub EndsWithVerdict : Type 0
EndsWithVerdict =
    (words : List (List ℕ)) (files : Contents) (saved : Option (List ℕ)) (status : ℕ) (call : Call) →
    HasVerdict words files saved status → IsCallOver words files saved call → (call.status ≡ status) ⊎ HasFailed call

-- so two calls end with one status, but for those that have failed; and with 0, where one does
abbrev pub EndAlike : Type 0
EndAlike =
    (words : List (List ℕ)) (files : Contents) (saved : Option (List ℕ)) (one other : Call) →
    IsCallOver words files saved one → IsCallOver words files saved other →
    HasFailed one ⊎ (HasFailed other ⊎ (one.status ≡ other.status))

abbrev pub IsComplete : Type 0
IsComplete =
    (words : List (List ℕ)) (files : Contents) (saved : Option (List ℕ)) (one other : Call) →
    IsCallOver words files saved one → IsCallOver words files saved other → one.status ≡ 0 →
    (other.status ≡ 0) ⊎ HasFailed other

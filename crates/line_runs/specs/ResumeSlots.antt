-- What comes of a run that goes on from what the slots of a disk hold.
use Rattle.std.specs.Prelude.{◌≡◌, ℕ, Bool, IsTrue, List, Option, None, Some, Result, Ok, Err, ⊤}
use Rattle.line_base.specs.declared.event.Parts.{Parts}
use Rattle.line_core.specs.Run.{Dates}
use Rattle.checkpoint.specs.declared.error.CheckpointError.{CheckpointError}
use Rattle.checkpoint.specs.declared.error.CheckpointError.TheVariants as Text
use Rattle.crash_disk.specs.DiskView.{DiskView}
use Rattle.crash_disk.specs.declared.slots.error.SlotError.{SlotError}
use Rattle.crash_disk.specs.declared.slots.error.SlotError.TheVariants as Slot
use Rattle.crash_disk.specs.Crash.{bytes_now}
use Rattle.crash_disk.specs.Layout.{content}
use Rattle.crash_disk.specs.Loads.{HasLoaded, answer_finding}
use Rattle.line_runs.specs.declared.error.ResumeError.{ResumeError}
use Rattle.line_runs.specs.declared.error.ResumeError.TheVariants.{NothingSaved, Checkpoint, DiskFault, NoMemory}
use Rattle.line_runs.specs.Resume.{Resumes}

-- the answer to the refusal of a load; a load never finds the content too long
abbrev pub AnswersLoad : SlotError → ResumeError → Type 0
AnswersLoad Slot.NoneSaved error = error ≡ NothingSaved
AnswersLoad Slot.DiskFault error = error ≡ DiskFault
AnswersLoad Slot.NoMemory error = error ≡ NoMemory
AnswersLoad (Slot.TooLong have) error = ⊥

-- what the refusal of a text becomes
abbrev pub of_checkpoint_error : CheckpointError → ResumeError
of_checkpoint_error (Text.Line number) = Checkpoint (Text.Line number)
of_checkpoint_error (Text.Count station have limit) = Checkpoint (Text.Count station have limit)
of_checkpoint_error (Text.Marking arc have need) = Checkpoint (Text.Marking arc have need)
of_checkpoint_error (Text.Date station job have need) = Checkpoint (Text.Date station job have need)
of_checkpoint_error (Text.PlaceDate arc token have need) =
    Checkpoint (Text.PlaceDate arc token have need)
of_checkpoint_error Text.NoMemory = NoMemory

-- what is answered where nothing is saved; a fault of the disk and out of memory come before
abbrev pub AnswersNothing : Result Dates ResumeError → Type 0
AnswersNothing (Ok d) = ⊥
AnswersNothing (Err NothingSaved) = ⊤
AnswersNothing (Err (Checkpoint error)) = ⊥
AnswersNothing (Err DiskFault) = ⊤
AnswersNothing (Err NoMemory) = ⊤

-- what is answered where these bytes are saved: what resuming them answers
abbrev pub AnswersText : Parts → List ℕ → Result Dates ResumeError → Type 0
AnswersText g bytes (Ok d) = Resumes g bytes (Ok d)
AnswersText g bytes (Err NothingSaved) = ⊥
AnswersText g bytes (Err (Checkpoint error)) = Resumes g bytes (Err error)
AnswersText g bytes (Err DiskFault) = ⊤
AnswersText g bytes (Err NoMemory) = ⊤

abbrev pub AnswersSaved : Parts → Option (List ℕ) → Result Dates ResumeError → Type 0
AnswersSaved g None answer = AnswersNothing answer
AnswersSaved g (Some bytes) answer = AnswersText g bytes answer

-- The answer came of a load that found a content or no slot open. Where the disk failed, or memory ran out, no load
-- may have.
abbrev pub IsOfLoad : Result Dates ResumeError → Type 0
IsOfLoad (Ok d) = ⊤
IsOfLoad (Err NothingSaved) = ⊤
IsOfLoad (Err (Checkpoint error)) = ⊤
IsOfLoad (Err DiskFault) = ⊥
IsOfLoad (Err NoMemory) = ⊥

-- The answer is that to what the slots hold, where the disk tells it; and of every disk it is that to what the reads of
-- this call found.
pub record ResumesSlots (tells : Bool) (old new : DiskView) (room : ℕ) (g : Parts)
    (answer : Result Dates ResumeError) : Type 0 where
  pub saved : Option (List ℕ)
  pub known : IsTrue tells → content (bytes_now old) room ≡ saved
  pub read : IsOfLoad answer → HasLoaded room old new (answer_finding saved)
  pub answers : AnswersSaved g saved answer

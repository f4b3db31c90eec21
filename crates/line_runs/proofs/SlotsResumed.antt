-- What is answered to what the slots of a disk hold.
use Rattle.std.proofs.Common.{◌≡◌, ℕ, Bool, IsTrue, List, Option, None, Some, Ok, Err, refl, arith}
use Rattle.line_base.specs.declared.event.Parts.{Parts}
use Rattle.line_core.specs.Run.{Dates}
use Rattle.checkpoint.specs.declared.error.CheckpointError.{CheckpointError}
use Rattle.checkpoint.specs.declared.error.CheckpointError.TheVariants as Text
use Rattle.crash_disk.specs.DiskView.{DiskView}
use Rattle.crash_disk.specs.declared.slots.error.SlotError.{SlotError}
use Rattle.crash_disk.specs.declared.slots.error.SlotError.TheVariants as Slot
use Rattle.crash_disk.specs.Crash.{bytes_now}
use Rattle.crash_disk.specs.Layout.{content}
use Rattle.crash_disk.specs.Loads.{HasLoaded}
use Rattle.line_runs.specs.declared.error.ResumeError.{ResumeError}
use Rattle.line_runs.specs.declared.error.ResumeError.TheVariants.{DiskFault, NoMemory}
use Rattle.line_runs.specs.Resume.{Resumes}
use Rattle.line_runs.specs.ResumeSlots.{AnswersLoad, of_checkpoint_error, AnswersSaved, ResumesSlots}

-- a fault of the disk may be answered to anything, and out of memory too
faults_anywhere : (g : Parts) (saved : Option (List ℕ)) → AnswersSaved g saved (Err DiskFault)
faults_anywhere g None = tt
faults_anywhere g (Some bytes) = tt

no_memory_anywhere : (g : Parts) (saved : Option (List ℕ)) → AnswersSaved g saved (Err NoMemory)
no_memory_anywhere g None = tt
no_memory_anywhere g (Some bytes) = tt

-- what the disk held before the call, and what was read in it
pub record Found (tells : Bool) (old new : DiskView) (room : ℕ) (bytes : List ℕ) : Type 0 where
  pub known : IsTrue tells → content (bytes_now old) room ≡ Some bytes
  pub read : HasLoaded room old new (Ok bytes)

-- the slots were not read
pub not_loaded : (tells : Bool) (old new : DiskView) (room : ℕ) (g : Parts) (refusal : SlotError) (error : ResumeError) → AnswersLoad refusal error → (refusal ≡ Slot.NoneSaved → IsTrue tells → content (bytes_now old) room ≡ None) → HasLoaded room old new (Err refusal) → ResumesSlots tells old new room g (Err error)
not_loaded tells old new room g Slot.NoneSaved error is none read = rw is (record { saved = None; known = none refl; read = λ of. read; answers = tt })
not_loaded tells old new room g Slot.DiskFault error is none read = rw is (record { saved = content (bytes_now old) room; known = λ known. refl; read = λ of. absurd of; answers = faults_anywhere g (content (bytes_now old) room) })
not_loaded tells old new room g Slot.NoMemory error is none read = rw is (record { saved = content (bytes_now old) room; known = λ known. refl; read = λ of. absurd of; answers = no_memory_anywhere g (content (bytes_now old) room) })
not_loaded tells old new room g (Slot.TooLong have) error is none read = absurd is

-- a fault is answered only where the load met one
pub load_fault : (refusal : SlotError) (error : ResumeError) → AnswersLoad refusal error → error ≡ DiskFault → refusal ≡ Slot.DiskFault
load_fault Slot.NoneSaved error is fault = absurd (grind (arith, is, fault))
load_fault Slot.DiskFault error is fault = refl
load_fault Slot.NoMemory error is fault = absurd (grind (arith, is, fault))
load_fault (Slot.TooLong have) error is fault = absurd is

-- the bytes that were read are no checkpoint
pub not_resumed : (tells : Bool) (old new : DiskView) (room : ℕ) (g : Parts) (bytes : List ℕ) (error : CheckpointError) → Found tells old new room bytes → Resumes g bytes (Err error) → ResumesSlots tells old new room g (Err (of_checkpoint_error error))
not_resumed tells old new room g bytes (Text.Line number) found resumes = record { saved = Some bytes; known = found.known; read = λ of. found.read; answers = resumes }
not_resumed tells old new room g bytes (Text.Count station have limit) found resumes = record { saved = Some bytes; known = found.known; read = λ of. found.read; answers = resumes }
not_resumed tells old new room g bytes (Text.Marking arc have need) found resumes = record { saved = Some bytes; known = found.known; read = λ of. found.read; answers = resumes }
not_resumed tells old new room g bytes (Text.Date station job have need) found resumes = record { saved = Some bytes; known = found.known; read = λ of. found.read; answers = resumes }
not_resumed tells old new room g bytes (Text.PlaceDate arc token have need) found resumes = record { saved = Some bytes; known = found.known; read = λ of. found.read; answers = resumes }
not_resumed tells old new room g bytes Text.NoMemory found resumes = record { saved = Some bytes; known = found.known; read = λ of. found.read; answers = tt }

-- they are one
pub resumed : (tells : Bool) (old new : DiskView) (room : ℕ) (g : Parts) (bytes : List ℕ) (d : Dates) → Found tells old new room bytes → Resumes g bytes (Ok d) → ResumesSlots tells old new room g (Ok d)
resumed tells old new room g bytes d found resumes = record { saved = Some bytes; known = found.known; read = λ of. found.read; answers = resumes }

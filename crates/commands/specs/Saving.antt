-- What a command answers that saves states: into a file where it stops, or into the slots of a disk on the way; and
-- what goes on from slots.
use Rattle.std.specs.Prelude.{◌≡◌, ◌⊎◌, ℕ, ◌+◌, ◌*◌, ◌≤◌, List, [], ◌∷◌, length, IsTrue, Option, Some, None, Result, Ok}
use Rattle.std.specs.Prelude.{Err, ⊤}
use Rattle.checkpoint.specs.declared.format.Format.TheVariants.{Differences}
use Rattle.checkpoint.specs.Text.{text}
use Rattle.event_graph.specs.Network.{stations}
use Rattle.event_graph.specs.State.{State, start}
use Rattle.line_base.specs.declared.event.Parts.{Parts}
use Rattle.line_base.specs.Limits.{most_checkpoint_bytes}
use Rattle.line_core.specs.Consistent.{firing_count}
use Rattle.line_core.specs.Run.{Dates}
use Rattle.crash_disk.specs.DiskView.{LeavesOnly, Stays, held_now}
use Rattle.outside_io.specs.Calls.{Asked, none_asked}
use Rattle.outside_io.specs.declared.store.StoreError.{StoreError}
use Rattle.outside_io.specs.declared.store.StoreError.TheVariants as store_error
use Rattle.line_runs.specs.Headline.{MayBeResumed}
use Rattle.line_runs.specs.declared.error.ResumeError.{ResumeError}
use Rattle.line_runs.specs.declared.error.ResumeError.TheVariants as resume_error
use Rattle.line_runs.specs.Saves.{HasSaved, IsOldOrState, IsLateState}
use Rattle.line_runs.specs.AllFirings.{all_firings}
use Rattle.line_runs.specs.Stop.{IsShort, IsStopAt}
use Rattle.line_workers.specs.Line.{WorkLine}
use Rattle.plant_model.specs.declared.plant.Plant.{Plant}
use Rattle.plant_model.specs.Graph.{graph}
use Rattle.live_plant.specs.Checkpoints.{checkpoint_refusal, NamesStation}
use Rattle.live_plant.specs.declared.refusals.refusal.Refusal.{Refusal}
use Rattle.live_plant.specs.declared.refusals.refusal.Refusal.TheVariants.{Disk, NoMemory, NothingSaved, StoreFault}
use Rattle.crash_disk.specs.Crash.{bytes_now}
use Rattle.crash_disk.specs.declared.slots.error.SlotError.{SlotError}
use Rattle.crash_disk.specs.declared.slots.error.SlotError.TheVariants as slot_error
use Rattle.crash_disk.specs.Layout.{content}
use Rattle.crash_disk.specs.Loads.{HasLoaded, answer_finding}
use Rattle.live_plant.specs.Actions.{DiskOver, Action}
use Rattle.commands.specs.FirstEnd.{IsDoneFirst, IsFirstEnd}
use Rattle.commands.specs.Reports.{IsReport, IsResumed}
use Rattle.command_line.specs.declared.disk_question.DiskQuestion.{DiskQuestion}
use Rattle.command_line.specs.declared.disk_question.DiskQuestion.TheVariants as disk_question
use Rattle.answers.specs.declared.answer.Answer.{Answer}
use Rattle.answers.specs.declared.answer.Answer.TheVariants.{Stopped}
use Rattle.line_worker.specs.Sweeps.{most_sweeps}

-- what a run answers that stopped after this many firings, by what the write of its state into this file was answered
abbrev pub AnswersWrite : List ℕ → ℕ → Result (Unit {0}) StoreError → Result Answer Refusal → Type 0
AnswersWrite file count (Ok done) answer = answer ≡ Ok (Stopped count)
AnswersWrite file count (Err store_error.Failed) answer = answer ≡ Err (StoreFault file)
AnswersWrite file count (Err store_error.TooLong) answer = ⊥
AnswersWrite file count (Err store_error.NoMemory) answer = answer ≡ Err NoMemory

-- a write of these bytes to the file was asked, once, and this is the answer
pub record WritesText (file bytes : List ℕ) (count : ℕ) (asked : Asked) (answer : Result Answer Refusal) : Type 0 where
  pub given : Result (Unit {0}) StoreError
  pub writes : asked ≡ record { reads = []; writes = record { name = file; bytes = bytes; answer = given } ∷ [] }
  pub answers : AnswersWrite file count given answer

-- nothing was asked of the store, and there was no memory
abbrev pub AsksNothing : Asked → Result Answer Refusal → Type 0
AsksNothing asked answer = (asked ≡ none_asked) × (answer ≡ Err NoMemory)

-- the bytes of a checkpoint of this many firings are saved in a file
abbrev pub SavesText : List ℕ → List ℕ → ℕ → Action Answer
SavesText file bytes count asked disk answer =
    (disk.new ≡ disk.old) × (WritesText file bytes count asked answer ⊎ AsksNothing asked answer)

-- the run of this many workers stopped in a state from which it may be resumed, at the first burst's end with n
-- firings, and its text, which is no longer than a checkpoint may be, was written to the file
pub record Stops (p : Plant) (workers n : ℕ) (file : List ℕ) (asked : Asked)
    (answer : Result Answer Refusal) : Type 0 where
  pub state : State
  pub resumed : MayBeResumed (graph p) state
  pub first_end : IsFirstEnd (graph p) n workers state
  pub stop : IsStopAt (graph p) n 0 (firing_count state)
  pub fits : length (text Differences (graph p) state) ≤ most_checkpoint_bytes
  pub saved : WritesText file (text Differences (graph p) state) (firing_count state) asked answer

-- the run of this many workers answered its end, since at no burst's end before that n firings were made, and nothing
-- was written to the store
pub record Ends (p : Plant) (workers n : ℕ) (asked : Asked) (answer : Result Answer Refusal) : Type 0 where
  pub nothing : asked ≡ none_asked
  pub first : IsDoneFirst (graph p) n workers
  pub short : IsShort (graph p) n 0
  pub report : IsReport p answer

-- `run --stop-after N --save FILE --workers W`
pub record RunsUntil (p : Plant) (workers n : ℕ) (file : List ℕ) (asked : Asked) (disk : DiskOver)
    (answer : Result Answer Refusal) : Type 0 where
  pub untouched : disk.new ≡ disk.old
  pub answers : Stops p workers n file asked answer ⊎ (Ends p workers n asked answer ⊎ AsksNothing asked answer)

-- from the start of the plant's graph on, a save was due at each burst's end at which n firings were made since the
-- save before or the start, and not all; the disk holds the state of the last of them, and is as before where there was
-- none
pub record SavesOnTheWay (p : Plant) (n : ℕ) (disk : DiskOver) : Type 0 where
  pub first : WorkLine
  pub begun : first.state ≡ start (graph p)
  pub made_for : first.live.graph ≡ graph p
  pub table : Dates
  pub saves : HasSaved disk.tells most_checkpoint_bytes n first disk.old disk.new table

-- the report, with saves on the way; so the disk is as before where n is at least all firings, and where n and the most
-- firings of a burst are together at most all, the state that was saved last has few firings less than all
pub record Saves (p : Plant) (n : ℕ) (disk : DiskOver) (answer : Result Answer Refusal) : Type 0 where
  pub report : IsReport p answer
  pub saves : SavesOnTheWay p n disk
  pub untouched : IsTrue disk.tells → all_firings (graph p) ≤ n → disk.new ≡ disk.old
  pub late : IsTrue disk.tells → n + most_sweeps * stations (graph p) ≤ all_firings (graph p)
      → IsLateState (graph p) n most_checkpoint_bytes (held_now disk.new)

-- `run --every N --slots`: at any moment the slots hold what a crash could have left before, or the text of a state of
-- the plant from which it may be resumed; the run answers its end, or the disk failed, or there was no memory
pub record RunsWithSlots (p : Plant) (n : ℕ) (asked : Asked) (disk : DiskOver)
    (answer : Result Answer Refusal) : Type 0 where
  pub nothing : asked ≡ none_asked
  pub any_moment : IsTrue disk.tells → LeavesOnly disk.old disk.new
      (IsOldOrState (held_now disk.old) most_checkpoint_bytes (graph p))
  pub answers : Saves p n disk answer ⊎ ((answer ≡ Err Disk) ⊎ (answer ≡ Err NoMemory))

-- what is saved is resumed
abbrev pub IsResumedOf : Plant → Option (List ℕ) → Result Answer Refusal → Type 0
IsResumedOf p None answer = answer ≡ Err NothingSaved
IsResumedOf p (Some bytes) answer = IsResumed p bytes answer

-- What the slots hold is resumed: what the reads of this call found, and where it is known, what the disk holds.
pub record ResumesSaved (p : Plant) (disk : DiskOver) (answer : Result Answer Refusal) : Type 0 where
  pub saved : Option (List ℕ)
  pub known : IsTrue disk.tells → content (bytes_now disk.old) most_checkpoint_bytes ≡ saved
  pub read : HasLoaded most_checkpoint_bytes disk.old disk.new (answer_finding saved)
  pub answers : IsResumedOf p saved answer

-- `resume --slots`
pub record ResumesSlots (p : Plant) (asked : Asked) (disk : DiskOver) (answer : Result Answer Refusal) : Type 0 where
  pub nothing : asked ≡ none_asked
  pub stays : IsTrue disk.tells → Stays disk.old disk.new
  pub answers : ResumesSaved p disk answer ⊎ ((answer ≡ Err Disk) ⊎ (answer ≡ Err NoMemory))

-- what a save answers that didn't go well; every checkpoint of a plant fits the room of a slot
abbrev pub AnswersSave : SlotError → Refusal → Type 0
AnswersSave slot_error.DiskFault refusal = refusal ≡ Disk
AnswersSave slot_error.NoMemory refusal = refusal ≡ NoMemory
AnswersSave slot_error.NoneSaved refusal = ⊥
AnswersSave (slot_error.TooLong have) refusal = ⊥

-- the station that a checkpoint's refusal names is one of the graph
abbrev pub NamesStationOf : Parts → ResumeError → Type 0
NamesStationOf g (resume_error.Checkpoint error) = NamesStation g error
NamesStationOf g other = ⊤

-- what slots answer from which no run goes on; no memory may come in place of a checkpoint's refusal
abbrev pub IsResumeRefusal : Parts → ResumeError → Refusal → Type 0
IsResumeRefusal g resume_error.NothingSaved refusal = refusal ≡ NothingSaved
IsResumeRefusal g resume_error.DiskFault refusal = refusal ≡ Disk
IsResumeRefusal g resume_error.NoMemory refusal = refusal ≡ NoMemory
IsResumeRefusal g (resume_error.Checkpoint error) refusal =
    (refusal ≡ NoMemory) ⊎ (refusal ≡ checkpoint_refusal g error)

-- each question about a live plant and the slots of a disk
abbrev pub DoesOnSlots : DiskQuestion → Plant → Action Answer
DoesOnSlots (disk_question.RunSlots every workers) p = RunsWithSlots p every
DoesOnSlots (disk_question.ResumeSlots workers) p = ResumesSlots p

-- Two answers to one question are alike: what is written ends with status 0, and refusals have one status, but for
-- those that are free.
use Rattle.std.proofs.Common.{◌≡◌, ◌⊎◌, ℕ, List, refl, sym, ◌∙◌, subst, inl, inr, ⊎_elim}
use Rattle.std.specs.Prelude.{Option, Some, None, Result, Ok, Err, ⊤}
use Rattle.answers.specs.declared.answer.Answer.{Answer}
use Rattle.checkpoint.specs.declared.error.CheckpointError.{CheckpointError}
use Rattle.checkpoint.specs.declared.error.CheckpointError.TheVariants as checkpoint
use Rattle.commands.specs.Answers.{IsRefusedFor, IsEnd, IsCycle, IsCycled}
use Rattle.commands.specs.Reports.{Writes as Answers, WritesOfLeast, IsResumed}
use Rattle.commands.specs.Saving.{AnswersWrite, RunsUntil, RunsWithSlots, ResumesSaved, IsResumedOf, ResumesSlots}
use Rattle.cycle_time.specs.declared.certificate.CycleError.{CycleError}
use Rattle.cycle_time.specs.declared.certificate.CycleError.TheVariants as cycle
use Rattle.cycle_time.specs.Certificate.{NoneVaries, IsCycleRefusal}
use Rattle.event_graph.specs.State.{State}
use Rattle.event_graph.specs.Table.{date_in}
use Rattle.line_base.specs.declared.event.Parts.{Parts}
use Rattle.line_core.specs.Consistent.{firing_count}
use Rattle.line_core.specs.declared.error.ReplayError.{ReplayError}
use Rattle.outside_io.specs.Calls.{Asked}
use Rattle.outside_io.specs.declared.store.StoreError.{StoreError}
use Rattle.outside_io.specs.declared.store.StoreError.TheVariants as store_error
use Rattle.line_report.specs.ReportText.{report}
use Rattle.live_plant.specs.Actions.{DiskOver}
use Rattle.plant_model.specs.declared.plant.Plant.{Plant}
use Rattle.plant_model.specs.Graph.{graph}
use Rattle.live_plant.specs.Checkpoints.{checkpoint_refusal}
use Rattle.live_plant.specs.Refusal.{status_of}
use Rattle.live_plant.specs.Refusals.{cycle_refusal}
use Rattle.live_plant.specs.Schedules.{schedule_refusal}
use Rattle.live_plant.specs.declared.refusals.refusal.Refusal.{Refusal}
use Rattle.live_plant.specs.declared.refusals.refusal.Refusal.TheVariants.{Disk, NoMemory, NothingSaved, StoreFault}
use Rattle.pull_laws.specs.Verdicts.{IsFree, HoldsSaved}
use Rattle.pull_laws.proofs.Alike.{IsFreeAnswer, AreAlike, memory_free}

-- two answers are alike, whatever is written
abbrev pub Ends : Result Answer Refusal → Result Answer Refusal → Type 0
Ends = AreAlike (λ (x y : Answer). ⊤)

-- something is written
abbrev pub IsDone : Result Answer Refusal → Type 0
IsDone (Ok answer) = ⊤
IsDone (Err refusal) = ⊥

pub done_alike : (one other : Result Answer Refusal) → IsDone one → IsDone other → Ends one other
done_alike (Ok one) (Ok other) is also = inr (inr tt)
done_alike (Ok one) (Err other) is also = absurd also
done_alike (Err one) other is also = absurd is

pub text_done : (text : List ℕ) (answer : Result Answer Refusal) → Answers text answer → IsDone answer
text_done text (Ok answer) is = tt
text_done text (Err refusal) is = absurd is

pub least_done : (p : Plant) (text : (ℕ → ℕ → ℕ) → List ℕ) (answer : Result Answer Refusal) →
    WritesOfLeast p text answer → IsDone answer
least_done p text answer is = text_done (text (date_in is.rows)) answer is.written

pub texts_alike : (text : List ℕ) (one other : Result Answer Refusal) → Answers text one → Answers text other →
    Ends one other
texts_alike text one other is also = done_alike one other (text_done text one is) (text_done text other also)

pub least_alike : (p : Plant) (text : (ℕ → ℕ → ℕ) → List ℕ) (one other : Result Answer Refusal) →
    WritesOfLeast p text one → WritesOfLeast p text other → Ends one other
least_alike p text one other is also = done_alike one other (least_done p text one is) (least_done p text other also)

-- two refusals, each of one status or free
abbrev pub IsOrFree : ℕ → Refusal → Type 0
IsOrFree status refusal = IsFree refusal ⊎ (status_of refusal ≡ status)

pub refused_free : (refusal : Refusal) (answer : Result Answer Refusal) → answer ≡ Err refusal → IsFree refusal →
    IsFreeAnswer answer
refused_free refusal answer is free = subst IsFreeAnswer (sym is) free

pub refused_alike : (status : ℕ) (one other : Refusal) (a b : Result Answer Refusal) → a ≡ Err one → b ≡ Err other →
    IsOrFree status one → IsOrFree status other → Ends a b
refused_alike status one other a b is also (inl free) says = inl (refused_free one a is free)
refused_alike status one other a b is also (inr same) (inl free) = inr (inl (refused_free other b also free))
refused_alike status one other a b is also (inr same) (inr same_too) =
    subst (λ (x : Result Answer Refusal). Ends x b) (sym is)
    (subst (λ (y : Result Answer Refusal). Ends (Err one) y) (sym also) (inr (inr (same ∙ sym same_too))))

-- a question that is answered, or refused: where it is answered a refusal is free
pub ways_alike : (D N : Result Answer Refusal → Type 0) → ((a : Result Answer Refusal) → D a → IsDone a) →
    ((a b : Result Answer Refusal) → D a → N b → IsFreeAnswer b) →
    ((a b : Result Answer Refusal) → N a → N b → Ends a b) → (one other : Result Answer Refusal) → D one ⊎ N one →
    D other ⊎ N other → Ends one other
ways_alike D N done free refused one other (inl is) (inl also) = done_alike one other (done one is) (done other also)
ways_alike D N done free refused one other (inl is) (inr not) = inr (inl (free one other is not))
ways_alike D N done free refused one other (inr not) (inl also) = inl (free other one also not)
ways_alike D N done free refused one other (inr not) (inr nor) = refused one other not nor

-- ---- questions

-- `cycle`: with 8 where a station has a list of times, and else with 0
cycle_status : (g : Parts) (error : CycleError) → IsOrFree 8 (cycle_refusal g error)
cycle_status g (cycle.Varying t) = inr refl
cycle_status g cycle.NoMemory = inl tt

varying_free : (g : Parts) (error : CycleError) → NoneVaries g → IsCycleRefusal g error → IsFree (cycle_refusal g error)
varying_free g (cycle.Varying t) none why = absurd (none t why.within why.found)
varying_free g cycle.NoMemory none why = tt

pub cycled_alike : (p : Plant) (one other : Result Answer Refusal) → IsCycled p one → IsCycled p other → Ends one other
cycled_alike p =
    ways_alike (IsCycle p) (IsRefusedFor (IsCycleRefusal (graph p)) (cycle_refusal (graph p)))
    (λ a is. text_done is.text a is.written)
    (λ a b is not. refused_free (cycle_refusal (graph p) not.error) b not.says
    (varying_free (graph p) not.error is.fixed not.reason))
    (λ a b not nor.
    refused_alike 8 (cycle_refusal (graph p) not.error) (cycle_refusal (graph p) nor.error) a b not.says nor.says
    (cycle_status (graph p) not.error) (cycle_status (graph p) nor.error))

-- `replay`: by where the schedule leads
pub ends_alike : (p : Plant) (end : Result State ReplayError) (one other : Result Answer Refusal) → IsEnd p end one →
    IsEnd p end other → Ends one other
ends_alike p (Ok state) one other is also = least_alike p (report p) one other is also
ends_alike p (Err error) one other is also =
    let refusal = schedule_refusal (graph p) error in
    refused_alike (status_of refusal) refusal refusal one other is also (inr refl) (inr refl)

-- `resume`: with 7 where the bytes are no checkpoint
checkpoint_status : (g : Parts) (error : CheckpointError) → IsOrFree 7 (checkpoint_refusal g error)
checkpoint_status g (checkpoint.Line number) = inr refl
checkpoint_status g (checkpoint.Count t have limit) = inr refl
checkpoint_status g (checkpoint.Marking a have need) = inr refl
checkpoint_status g (checkpoint.Date t job have need) = inr refl
checkpoint_status g (checkpoint.PlaceDate a token have need) = inr refl
checkpoint_status g checkpoint.NoMemory = inl tt

pub resumed_alike : (p : Plant) (bytes : List ℕ) (one other : Result Answer Refusal) → IsResumed p bytes one →
    IsResumed p bytes other → Ends one other
resumed_alike p bytes one other (inl is) (inl also) = least_alike p (report p) one other is.1 also.1
resumed_alike p bytes one other (inl is) (inr not) = absurd (not.none is.0)
resumed_alike p bytes one other (inr not) (inl also) = absurd (not.none also.0)
resumed_alike p bytes one other (inr not) (inr nor) =
    refused_alike 7 (checkpoint_refusal (graph p) not.error)
    (checkpoint_refusal (graph p) nor.error) one other not.says nor.says
    (checkpoint_status (graph p) not.error) (checkpoint_status (graph p) nor.error)

-- ---- runs that save

-- something is written, or the answer is a free refusal
abbrev pub IsDoneOrFree : Result Answer Refusal → Type 0
IsDoneOrFree answer = IsFreeAnswer answer ⊎ IsDone answer

pub done_or_free : (one other : Result Answer Refusal) → IsDoneOrFree one → IsDoneOrFree other → Ends one other
done_or_free one other (inl free) also = inl free
done_or_free one other (inr is) (inl free) = inr (inl free)
done_or_free one other (inr is) (inr also) = done_alike one other is also

-- a run that is to stop
written_done : (file : List ℕ) (count : ℕ) (given : Result (Unit {0}) StoreError) (answer : Result Answer Refusal) →
    AnswersWrite file count given answer → IsDoneOrFree answer
written_done file count (Ok done) answer is = inr (subst IsDone (sym is) tt)
written_done file count (Err store_error.Failed) answer is = inl (refused_free (StoreFault file) answer is tt)
written_done file count (Err store_error.TooLong) answer is = absurd is
written_done file count (Err store_error.NoMemory) answer is = inl (memory_free answer is)

pub run_done : (p : Plant) (workers n : ℕ) (file : List ℕ) (asked : Asked) (disk : DiskOver)
    (answer : Result Answer Refusal) → RunsUntil p workers n file asked disk answer → IsDoneOrFree answer
run_done p workers n file asked disk answer runs =
    ⊎_elim
    (λ stops. written_done file (firing_count stops.state) stops.saved.given answer stops.saved.answers)
    (λ rest. ⊎_elim (λ ended. inr (least_done p (report p) answer ended.report))
    (λ none. inl (memory_free answer none.1)) rest)
    runs.answers

-- the disk failed, or there was no memory
disk_free : (answer : Result Answer Refusal) → (answer ≡ Err Disk) ⊎ (answer ≡ Err NoMemory) → IsFreeAnswer answer
disk_free answer (inl is) = refused_free Disk answer is tt
disk_free answer (inr none) = memory_free answer none

-- `run --slots`
pub slots_done : (p : Plant) (n : ℕ) (asked : Asked) (disk : DiskOver) (answer : Result Answer Refusal) →
    RunsWithSlots p n asked disk answer → IsDoneOrFree answer
slots_done p n asked disk answer runs =
    ⊎_elim (λ saves. inr (least_done p (report p) answer saves.report))
    (λ failed. inl (disk_free answer failed)) runs.answers

-- `resume --slots`: what is saved is resumed, and with 14 where nothing is
saved_alike : (p : Plant) (saved : Option (List ℕ)) (one other : Result Answer Refusal) → IsResumedOf p saved one →
    IsResumedOf p saved other → Ends one other
saved_alike p None one other is also =
    refused_alike 14 NothingSaved NothingSaved one other is also (inr refl) (inr refl)
saved_alike p (Some bytes) one other is also = resumed_alike p bytes one other is also

saved_is : (p : Plant) (saved : Option (List ℕ)) (disk : DiskOver) (answer : Result Answer Refusal) →
    HoldsSaved saved disk → ResumesSaved p disk answer → IsResumedOf p saved answer
saved_is p saved disk answer holds is =
    subst (λ (o : Option (List ℕ)). IsResumedOf p o answer) (sym (is.known holds.known) ∙ holds.holds) is.answers

abbrev DiskFailed : Result Answer Refusal → Type 0
DiskFailed answer = (answer ≡ Err Disk) ⊎ (answer ≡ Err NoMemory)

found_alike : (p : Plant) (saved : Option (List ℕ)) (one other : Result Answer Refusal) →
    IsResumedOf p saved one ⊎ DiskFailed one → IsResumedOf p saved other ⊎ DiskFailed other → Ends one other
found_alike p saved one other (inl is) (inl also) = saved_alike p saved one other is also
found_alike p saved one other (inl is) (inr failed) = inr (inl (disk_free other failed))
found_alike p saved one other (inr failed) also = inl (disk_free one failed)

found : (p : Plant) (saved : Option (List ℕ)) (asked : Asked) (disk : DiskOver) (answer : Result Answer Refusal) →
    HoldsSaved saved disk → ResumesSlots p asked disk answer → IsResumedOf p saved answer ⊎ DiskFailed answer
found p saved asked disk answer holds resumes =
    ⊎_elim (λ is. inl (saved_is p saved disk answer holds is)) (λ failed. inr failed) resumes.answers

pub slots_alike : (p : Plant) (saved : Option (List ℕ)) (asked more : Asked) (disk more_disk : DiskOver)
    (one other : Result Answer Refusal) → HoldsSaved saved disk → HoldsSaved saved more_disk →
    ResumesSlots p asked disk one → ResumesSlots p more more_disk other → Ends one other
slots_alike p saved asked more disk more_disk one other holds holds_too is also =
    found_alike p saved one other (found p saved asked disk one holds is)
    (found p saved more more_disk other holds_too also)

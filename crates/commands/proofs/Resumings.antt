-- A run of a plant that goes on from what was saved.
use Rattle.std.proofs.Common.{◌≡◌, ◌⊎◌, ℕ, ◌≤◌, Bool, List, [], Option, None, Some, IsTrue, refl, ap, sym, ◌∙◌, subst}
use Rattle.std.proofs.Common.{inl, inr, ⊎_elim}
use Rattle.std.specs.Prelude.{Result, Ok, Err, IfErr}
use Rattle.checkpoint.specs.declared.error.CheckpointError.{CheckpointError}
use Rattle.checkpoint.specs.declared.error.CheckpointError.TheVariants as error
use Rattle.line_base.specs.declared.event.Parts.{Parts}
use Rattle.line_base.specs.Limits.{most_checkpoint_bytes}
use Rattle.line_core.specs.Run.{Dates}
use Rattle.crash_disk.specs.DiskView.{DiskView, Stays}
use Rattle.outside_io.specs.Faults.{Rose}
use Rattle.line_runs.specs.Resume.{IsCheckpoint, Resumes}
use Rattle.line_runs.specs.ResumeSlots.{AnswersSaved, ResumesSlots}
use Rattle.line_runs.specs.Table.{IsLeastOf}
use Rattle.line_runs.specs.declared.error.ResumeError.{ResumeError}
use Rattle.line_runs.specs.declared.error.ResumeError.TheVariants.{Checkpoint}
use Rattle.line_runs.specs.declared.error.ResumeError.TheVariants as resume_error
use Rattle.plant_model.specs.declared.plant.Plant.{Plant}
use Rattle.plant_model.specs.Graph.{graph}
use Rattle.live_plant.proofs.CheckpointErrors.{names_station}
use Rattle.live_plant.specs.Checkpoints.{checkpoint_refusal, NamesStation}
use Rattle.live_plant.specs.declared.refusals.refusal.Refusal.{Refusal}
use Rattle.live_plant.specs.declared.refusals.refusal.Refusal.TheVariants.{Disk, NoMemory, NothingSaved}
use Rattle.live_plant.specs.Actions.{DiskOver, disk_over, HasCause, DoesOnDisk}
use Rattle.live_plant.specs.Outside.{StoreOver}
use Rattle.commands.proofs.Actions.{uses_disk}
use Rattle.commands.proofs.Stops.{reported_caused}
use Rattle.commands.specs.Reports.{IsReport, IsNoCheckpoint, IsResumed}
use Rattle.commands.specs.Saving.{NamesStationOf, IsResumeRefusal, IsResumedOf, ResumesSaved}
use Rattle.commands.specs.Saving.{ResumesSlots as SlotsResume}
use Rattle.answers.specs.declared.answer.Answer.{Answer}

-- ---- a text

-- no memory, or another error, which no text of a reached state gives
abbrev pub IsRefusal : CheckpointError → Type 0
IsRefusal error.NoMemory = ⊥
IsRefusal other = Unit {0}

refusal_or_none : (e : CheckpointError) → (e ≡ error.NoMemory) ⊎ IsRefusal e
refusal_or_none (error.Line number) = inr tt
refusal_or_none (error.Count t have limit) = inr tt
refusal_or_none (error.Marking a have need) = inr tt
refusal_or_none (error.Date t job have need) = inr tt
refusal_or_none (error.PlaceDate a token have need) = inr tt
refusal_or_none error.NoMemory = inl refl

-- the station that an error names is there
pub refused_names : (g : Parts) (bytes : List ℕ) (e : CheckpointError) → Resumes g bytes (Err e) → NamesStation g e
refused_names g bytes e resumes = names_station g bytes e resumes.refused

-- an answer that is a refusal
abbrev pub refused_with : Refusal → Result Answer Refusal
refused_with refusal = Err refusal

no_checkpoint : (p : Plant) (bytes : List ℕ) (e : CheckpointError) (answer : Result Answer Refusal) →
    Resumes (graph p) bytes (Err e) → IsRefusal e → answer ≡ Err (checkpoint_refusal (graph p) e) →
    IsNoCheckpoint p bytes answer
no_checkpoint p bytes e answer resumes is says = record {
  error = e;
  tells = resumes.refused;
  none = λ checkpoint. subst IsRefusal (resumes.found checkpoint) is;
  says = says;
}

-- a text is refused
pub refuses : (p : Plant) (g : Parts) (bytes : List ℕ) (e : CheckpointError) (refusal : Refusal) → g ≡ graph p →
    Resumes g bytes (Err e) → (refusal ≡ NoMemory) ⊎ (refusal ≡ checkpoint_refusal g e) →
    IsResumed p bytes (Err refusal) ⊎ (refused_with refusal ≡ Err NoMemory)
refuses p g bytes e refusal same resumes (inl none) = inr (ap refused_with none)
refuses p g bytes e refusal same resumes (inr is) =
    let says : refusal ≡ checkpoint_refusal (graph p) e =
    subst (λ (h : Parts). refusal ≡ checkpoint_refusal h e) same is in
    ⊎_elim
    (λ (none : e ≡ error.NoMemory). inr (ap refused_with (says ∙ ap (checkpoint_refusal (graph p)) none)))
    (λ (other : IsRefusal e). inl (inr (no_checkpoint p bytes e (refused_with refusal)
    (subst (λ (h : Parts). Resumes h bytes (Err e)) same resumes) other (ap refused_with says))))
    (refusal_or_none e)

-- a text is resumed
pub resumes : (p : Plant) (g : Parts) (bytes : List ℕ) (d : Dates) (answer : Result Answer Refusal) → g ≡ graph p →
    Resumes g bytes (Ok d) → IsReport p answer ⊎ (answer ≡ Err NoMemory) →
    IsResumed p bytes answer ⊎ (answer ≡ Err NoMemory)
resumes p g bytes d answer same of_text (inl report) =
    inl (inl (subst (λ (h : Parts). IsCheckpoint h bytes) same of_text.reached, report))
resumes p g bytes d answer same of_text (inr none) = inr none

-- ---- slots

-- what was saved, where a line went on from it
saved_resumes : (p : Plant) (g : Parts) (saved : Option (List ℕ)) (d : Dates) (answer : Result Answer Refusal) →
    g ≡ graph p → AnswersSaved g saved (Ok d) → IsReport p answer → IsResumedOf p saved answer
saved_resumes p g None d answer same answers report = absurd answers
saved_resumes p g (Some bytes) d answer same answers report =
    inl (subst (λ (h : Parts). IsCheckpoint h bytes) same answers.reached, report)

-- the table of slots
pub slots_least : (g : Parts) (saved : Option (List ℕ)) (d : Dates) → AnswersSaved g saved (Ok d) → IsLeastOf g d
slots_least g None d answers = absurd answers
slots_least g (Some bytes) d answers = answers.least

pub saved_names : (g : Parts) (saved : Option (List ℕ)) (e : CheckpointError) →
    AnswersSaved g saved (Err (Checkpoint e)) → NamesStation g e
saved_names g None e answers = absurd answers
saved_names g (Some bytes) e answers = refused_names g bytes e answers

saved_refuses : (p : Plant) (g : Parts) (saved : Option (List ℕ)) (e : CheckpointError) (refusal : Refusal) →
    g ≡ graph p → AnswersSaved g saved (Err (Checkpoint e)) →
    (refusal ≡ NoMemory) ⊎ (refusal ≡ checkpoint_refusal g e) →
    IsResumedOf p saved (Err refusal) ⊎ (refused_with refusal ≡ Err NoMemory)
saved_refuses p g None e refusal same answers is = absurd answers
saved_refuses p g (Some bytes) e refusal same answers is = refuses p g bytes e refusal same answers is

-- nothing is saved
saved_nothing : (p : Plant) (g : Parts) (saved : Option (List ℕ)) →
    AnswersSaved g saved (Err resume_error.NothingSaved) → IsResumedOf p saved (Err NothingSaved)
saved_nothing p g None answers = refl
saved_nothing p g (Some bytes) answers = absurd answers

-- a disk that was read
pub record Loaded (tells : Bool) (old new : DiskView) : Type 0 where
  pub stays : IsTrue tells → Stays old new
  pub faults : old.faults ≤ new.faults

module _ (tells : Bool) (old new : DiskView) (p : Plant) (loaded : Loaded tells old new) where
  slots_do : (answer : Result Answer Refusal) →
      ((store : StoreOver) → IfErr answer (HasCause store (disk_over tells old new) [])) →
      ResumesSaved p (disk_over tells old new) answer ⊎ ((answer ≡ Err Disk) ⊎ (answer ≡ Err NoMemory)) →
      DoesOnDisk (disk_over tells old new) (SlotsResume p) answer
  slots_do answer caused answers =
      uses_disk (disk_over tells old new) (SlotsResume p) answer loaded.faults caused
      (record { nothing = refl; stays = loaded.stays; answers = answers })

  -- a refusal that no store and no disk causes
  pub slots_no_memory : DoesOnDisk (disk_over tells old new) (SlotsResume p) (Err NoMemory)
  slots_no_memory = slots_do (Err NoMemory) (λ store. tt) (inr (inr refl))

  pub slots_fault : Rose old.faults new.faults → DoesOnDisk (disk_over tells old new) (SlotsResume p) (Err Disk)
  slots_fault rose = slots_do (Err Disk) (λ store. rose) (inr (inl refl))

  module _ (g : Parts) (same : g ≡ graph p) where
    pub slots_nothing : ResumesSlots tells old new most_checkpoint_bytes g (Err resume_error.NothingSaved) →
        DoesOnDisk (disk_over tells old new) (SlotsResume p) (Err NothingSaved)
    slots_nothing of = slots_do (Err NothingSaved) (λ store. tt)
        (inl (record {
          saved = of.saved;
          known = of.known;
          read = of.read tt;
          answers = saved_nothing p g of.saved of.answers;
        }))

    pub slots_report : (d : Dates) (answer : Result Answer Refusal) →
        ResumesSlots tells old new most_checkpoint_bytes g (Ok d) → IsReport p answer ⊎ (answer ≡ Err NoMemory) →
        DoesOnDisk (disk_over tells old new) (SlotsResume p) answer
    slots_report d answer of is = slots_do answer (λ store. reported_caused store (disk_over tells old new) p answer is)
        (⊎_elim
        (λ (report : IsReport p answer). inl (record {
          saved = of.saved;
          known = of.known;
          read = of.read tt;
          answers = saved_resumes p g of.saved d answer same of.answers report;
        }))
        (λ (none : answer ≡ Err NoMemory). inr (inr none))
        is)

    checkpoint_caused : (e : CheckpointError) (refusal : Refusal) (store : StoreOver) (disk : DiskOver) →
        (refusal ≡ NoMemory) ⊎ (refusal ≡ checkpoint_refusal g e) → HasCause store disk [] refusal
    checkpoint_caused e refusal store disk (inl none) = subst (HasCause store disk []) (sym none) tt
    checkpoint_caused e refusal store disk (inr is) = subst (HasCause store disk []) (sym is) (refusal_caused e)
      where
        refusal_caused : (e : CheckpointError) → HasCause store disk [] (checkpoint_refusal g e)
        refusal_caused (error.Line number) = tt
        refusal_caused (error.Count t have limit) = tt
        refusal_caused (error.Marking a have need) = tt
        refusal_caused (error.Date t job have need) = tt
        refusal_caused (error.PlaceDate a token have need) = tt
        refusal_caused error.NoMemory = tt

    pub slots_refuse : (e : CheckpointError) (refusal : Refusal) →
        ResumesSlots tells old new most_checkpoint_bytes g (Err (Checkpoint e)) →
        (refusal ≡ NoMemory) ⊎ (refusal ≡ checkpoint_refusal g e) →
        DoesOnDisk (disk_over tells old new) (SlotsResume p) (Err refusal)
    slots_refuse e refusal of is =
        slots_do (Err refusal) (λ store. checkpoint_caused e refusal store (disk_over tells old new) is)
        (⊎_elim
        (λ (answers : IsResumedOf p of.saved (Err refusal)). inl (record {
          saved = of.saved;
          known = of.known;
          read = of.read tt;
          answers = answers;
        }))
        (λ (none : refused_with refusal ≡ Err NoMemory). inr (inr none))
        (saved_refuses p g of.saved e refusal same of.answers is))

    pub slots_refused : (e : ResumeError) (refusal : Refusal) →
        ResumesSlots tells old new most_checkpoint_bytes g (Err e) →
        (e ≡ resume_error.DiskFault → Rose old.faults new.faults) → IsResumeRefusal g e refusal →
        DoesOnDisk (disk_over tells old new) (SlotsResume p) (Err refusal)
    slots_refused resume_error.NothingSaved refusal of rose is =
        subst (λ (r : Refusal). DoesOnDisk (disk_over tells old new) (SlotsResume p) (Err r)) (sym is)
        (slots_nothing of)
    slots_refused resume_error.DiskFault refusal of rose is =
        subst (λ (r : Refusal). DoesOnDisk (disk_over tells old new) (SlotsResume p) (Err r)) (sym is)
        (slots_fault (rose refl))
    slots_refused resume_error.NoMemory refusal of rose is =
        subst (λ (r : Refusal). DoesOnDisk (disk_over tells old new) (SlotsResume p) (Err r)) (sym is) slots_no_memory
    slots_refused (Checkpoint e) refusal of rose is = slots_refuse e refusal of is

-- the station that an error of slots names
pub slots_name : (g : Parts) (saved : Option (List ℕ)) (e : ResumeError) → AnswersSaved g saved (Err e) →
    NamesStationOf g e
slots_name g saved resume_error.NothingSaved answers = tt
slots_name g saved resume_error.DiskFault answers = tt
slots_name g saved resume_error.NoMemory answers = tt
slots_name g saved (Checkpoint e) answers = saved_names g saved e answers

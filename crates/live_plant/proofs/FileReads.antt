-- What a read of a store answers, and the refusals that need no cause.
use Rattle.std.proofs.Common.{◌≡◌, ◌≢◌, ◌⊎◌, ℕ, ◌<◌, ◌≤◌, Bool, Option, List, [], ◌∷◌, length, refl, ap, sym, subst, ⊎_elim, inl, inr}
use Rattle.std.specs.Prelude.{Result, Ok, Err, IfErr, IsTrue, Some}
use Rattle.std.proofs.lemmas.List.Elements.{All-nil, All-cons}
use Rattle.line_base.specs.declared.event.Parts.{Parts}
use Rattle.outside_io.specs.Calls.{Read}
use Rattle.outside_io.specs.Contents.{SameFiles, IsLongerThan}
use Rattle.outside_io.specs.Faults.{Rose, NeverFall}
use Rattle.outside_io.specs.StoreView.{StoreView}
use Rattle.outside_io.specs.declared.store.StoreError.{StoreError}
use Rattle.outside_io.specs.declared.store.StoreError.TheVariants as store_error
use Rattle.plant_file.specs.declared.draft.DraftPlant.{DraftPlant}
use Rattle.plant_file.specs.Finish.{completed_plant}
use Rattle.plant_model.specs.declared.error.PlantError.{PlantError}
use Rattle.plant_model.specs.declared.error.PlantError.TheVariants as plant_error
use Rattle.live_plant.specs.declared.refusals.refusal.Refusal.{Refusal}
use Rattle.plant_model.specs.declared.plant.Plant.{Plant}
use Rattle.plant_model.specs.Graph.{graph}
use Rattle.live_plant.specs.declared.refusals.refusal.Refusal.TheVariants.{NoMemory, Dead, StoreFault, TooLong}
use Rattle.live_plant.specs.Outside.{StoreOver, store_over, limit_of, with_reads, IsOfFile, IsCaused}
use Rattle.live_plant.specs.Refused.{IsFaultOf, refusal_of}
use Rattle.live_plant.specs.Steps.{LooksAt, Makes}
use Rattle.live_plant.specs.PlantSteps.{or_refused}
use Rattle.live_plant.specs.LiveSteps.{IsDeadRefusal, IsLiveOrDead}
use Rattle.live_plant.specs.Outside.{NeedsNoCause}

-- a read of a store that only added itself to what was asked
abbrev pub one_read : (name : List ℕ) (given : Result (List ℕ) StoreError) → List Read
one_read name given = record { name = name; answer = given } ∷ []

module _ (tells : Bool) (old new : StoreView) (name : List ℕ) (files : SameFiles tells old.files new.files) (read_faults : NeverFall old.read_faults new.read_faults) (write_faults : NeverFall old.write_faults new.write_faults) where
  -- a file that was read
  pub read_ok : (bytes : List ℕ) → new.asked ≡ with_reads old.asked (one_read name (Ok bytes)) → (IsTrue tells → old.files name ≡ Some bytes) → length bytes ≤ limit_of name → Makes (store_over tells old new) (LooksAt name) (Ok bytes)
  read_ok bytes asked held within = record {
    reads = one_read name (Ok bytes);
    asked = asked;
    of_files = All-cons (IsOfFile (store_over tells old new)) (record { name = name; answer = Ok bytes }) [] (within, held) (All-nil (IsOfFile (store_over tells old new)));
    answers = record { given = Ok bytes; one = refl; answers = refl };
    caused = tt;
    files_stay = files;
    read_faults_stay_or_rise = read_faults;
    write_faults_stay_or_rise = write_faults;
  }

  -- a file that couldn't be read
  fault : (error : StoreError) (refusal : Refusal) → new.asked ≡ with_reads old.asked (one_read name (Err error)) → IsOfFile (store_over tells old new) (record { name = name; answer = Err error }) → LooksAt name (one_read name (Err error)) (Err refusal) → IsCaused (store_over tells old new) refusal → Makes {A = List ℕ} (store_over tells old new) (LooksAt name) (Err refusal)
  fault error refusal asked fits answers caused = record {
    reads = one_read name (Err error);
    asked = asked;
    of_files = All-cons (IsOfFile (store_over tells old new)) (record { name = name; answer = Err error }) [] fits (All-nil (IsOfFile (store_over tells old new)));
    answers = answers;
    caused = caused;
    files_stay = files;
    read_faults_stay_or_rise = read_faults;
    write_faults_stay_or_rise = write_faults;
  }

  -- a refusal has its cause, where it is another refusal that has it
  caused_as : (refusal other : Refusal) → refusal ≡ other → IsCaused (store_over tells old new) other → IsCaused (store_over tells old new) refusal
  caused_as refusal other is caused = subst (IsCaused (store_over tells old new)) (sym is) caused

  pub read_fault : (error : StoreError) (refusal : Refusal) → new.asked ≡ with_reads old.asked (one_read name (Err error)) → IsFaultOf name error refusal → (error ≡ store_error.Failed → Rose (old.read_faults name) (new.read_faults name)) → (error ≡ store_error.TooLong → limit_of name < new.taken) → (error ≡ store_error.TooLong → IsTrue tells → IsLongerThan (limit_of name) (old.files name)) → Makes {A = List ℕ} (store_over tells old new) (LooksAt name) (Err refusal)
  read_fault store_error.Failed refusal asked is rose high long =
      ⊎_elim
      (λ same. fault store_error.Failed refusal asked tt (record { given = Err store_error.Failed; one = refl; answers = inl (ap Err same) }) (caused_as refusal (StoreFault name) same (rose refl)))
      (λ none. fault store_error.Failed refusal asked tt (record { given = Err store_error.Failed; one = refl; answers = inr (ap Err none) }) (caused_as refusal NoMemory none tt))
      is
  read_fault store_error.TooLong refusal asked is rose high long =
      ⊎_elim
      (λ same. fault store_error.TooLong refusal asked (long refl) (record { given = Err store_error.TooLong; one = refl; answers = inl (ap Err same) }) (caused_as refusal (TooLong name) same (high refl)))
      (λ none. fault store_error.TooLong refusal asked (long refl) (record { given = Err store_error.TooLong; one = refl; answers = inr (ap Err none) }) (caused_as refusal NoMemory none tt))
      is
  read_fault store_error.NoMemory refusal asked is rose high long =
      fault store_error.NoMemory refusal asked tt (record { given = Err store_error.NoMemory; one = refl; answers = ap Err is }) (caused_as refusal NoMemory is tt)

-- a refusal as the answer of a step
abbrev pub stopped : {A : Type 0} → Refusal → Result A Refusal
stopped refusal = Err refusal

-- the refusal to a refusal, where the answer is that refusal
pub refusal_answers : {A : Type 0} (want : Result A PlantError) (error : PlantError) → (error ≢ plant_error.NoMemory → want ≡ Err error) → (Err (refusal_of error) ≡ or_refused want) ⊎ (stopped {A = A} (refusal_of error) ≡ stopped NoMemory)
refusal_answers want plant_error.NoMemory is = inr refl
refusal_answers want error is = inl (sym (ap or_refused (is (λ same. cc))))

-- it names no file
pub refusal_caused : (tells : Bool) (old new : StoreView) (error : PlantError) → IsCaused (store_over tells old new) (refusal_of error)
refusal_caused tells old new plant_error.NoMemory = tt
refusal_caused tells old new error = tt

-- what a draft and the bytes of its files answer
abbrev pub IsCompleted : DraftPlant → Option (List ℕ) → Option (List ℕ) → Result Plant Refusal → Type 0
IsCompleted d demands times answer = answer ≡ or_refused (completed_plant d demands times)

refused_needs_none : {A : Type 0} (r : Result A PlantError) → IfErr (or_refused r) NeedsNoCause
refused_needs_none (Ok x) = tt
refused_needs_none (Err error) = tt

pub completed_needs_none : (d : DraftPlant) (demands times : Option (List ℕ)) (answer : Result Plant Refusal) → IsCompleted d demands times answer → IfErr answer NeedsNoCause
completed_needs_none d demands times answer is =
    subst (λ (r : Result Plant Refusal). IfErr r NeedsNoCause) (sym is) (refused_needs_none (completed_plant d demands times))

-- Refusals that name no file need no cause. A circuit without a token
dead_needs_none : (store : StoreOver) (g : Parts) (refusal : Refusal) → IsDeadRefusal g refusal → IsCaused store refusal
dead_needs_none store g (Dead labels) is = tt
dead_needs_none store g other is = absurd is

pub none_caused : {A : Type 0} (store : StoreOver) (answer : Result A Refusal) → answer ≡ Err NoMemory → IfErr answer (IsCaused store)
none_caused {A} store answer is = subst (λ (r : Result A Refusal). IfErr r (IsCaused store)) (sym is) tt

pub dead_caused : (store : StoreOver) (g : Parts) (refusal : Refusal) → IsDeadRefusal g refusal ⊎ (refusal ≡ NoMemory) → IsCaused store refusal
dead_caused store g refusal is =
    ⊎_elim (dead_needs_none store g refusal) (λ none. subst (IsCaused store) (sym none) tt) is

pub dead_answer : (p : Plant) (refusal : Refusal) → IsDeadRefusal (graph p) refusal ⊎ (refusal ≡ NoMemory) → IsLiveOrDead p (Err refusal) ⊎ (stopped {A = Plant} refusal ≡ stopped NoMemory)
dead_answer p refusal is = ⊎_elim (λ dead. inl dead) (λ none. inr (ap Err none)) is

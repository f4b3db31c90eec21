-- Steps one after another over a store.
use Rattle.std.proofs.Common.{◌≡◌, ◌⊎◌, ℕ, Bool, List, [], ◌++◌, refl, ap, sym, ◌∙◌, subst, append_assoc, append-nil, ⊎_elim, arith}
use Rattle.std.specs.Prelude.{Result, Ok, Err, IfErr, IsErrAnd, ⊤}
use Rattle.std.proofs.lemmas.Result.{err_from_is_err_and}
use Rattle.std.proofs.lemmas.List.Elements.{All-nil, All-append, All-weaker}
use Rattle.outside_io.specs.Calls.{Read, Asked}
use Rattle.outside_io.specs.Contents.{Contents, SameFiles, IsLongerThan}
use Rattle.outside_io.specs.Faults.{NeverFall}
use Rattle.outside_io.specs.StoreView.{StoreView}
use Rattle.outside_io.specs.declared.store.StoreError.{StoreError}
use Rattle.outside_io.specs.declared.store.StoreError.TheVariants as store_error
use Rattle.live_plant.specs.declared.refusals.refusal.Refusal.{Refusal}
use Rattle.live_plant.specs.declared.refusals.refusal.Refusal.TheVariants.{Disk, NoMemory, StoreFault, TooLong}
use Rattle.live_plant.specs.Outside.{StoreOver, store_over, limit_of, with_reads, Fits, IsOfFile, IsCaused, NeedsNoCause}
use Rattle.live_plant.specs.Steps.{Step, Settles, Then, Makes}

-- reads after reads
asked_both : (asked : Asked) (xs ys : List Read) → with_reads (with_reads asked xs) ys ≡ with_reads asked (xs ++ ys)
asked_both asked xs ys = ap (λ reads. record asked { reads = reads }) (append_assoc asked.reads xs ys)

pub asked_none : (asked : Asked) → asked ≡ with_reads asked []
asked_none asked = ap (λ reads. record asked { reads = reads }) (sym (append-nil asked.reads))

-- an answer that fits files that are as they were
pub fits_along : (tells : Bool) (files between : Contents) → SameFiles tells files between → (name : List ℕ) (answer : Result (List ℕ) StoreError) → Fits tells between name answer → Fits tells files name answer
fits_along tells files between same name (Ok bytes) fits = (fits.0, λ known. sym (same known name) ∙ fits.1 known)
fits_along tells files between same name (Err store_error.TooLong) fits = λ known. subst (IsLongerThan (limit_of name)) (same known name) (fits known)
fits_along tells files between same name (Err store_error.Failed) fits = tt
fits_along tells files between same name (Err store_error.NoMemory) fits = tt

-- refusals that need no cause have it, over whatever store
pub needs_none : (store : StoreOver) (refusal : Refusal) → NeedsNoCause refusal → IsCaused store refusal
needs_none store (StoreFault file) none = absurd none
needs_none store (TooLong file) none = absurd none
needs_none store Disk none = absurd none
needs_none store other none = tt

pub answer_needs_none : {A : Type 0} (store : StoreOver) (answer : Result A Refusal) → IfErr answer NeedsNoCause → IfErr answer (IsCaused store)
answer_needs_none store (Ok x) none = tt
answer_needs_none store (Err refusal) none = needs_none store refusal none

-- nor does no memory in place of an answer that needs none
pub settled_is_caused : {A : Type 0} (store : StoreOver) (P : Result A Refusal → Type 0) (answer : Result A Refusal) → (P answer → IfErr answer NeedsNoCause) → P answer ⊎ (answer ≡ Err NoMemory) → IfErr answer (IsCaused store)
settled_is_caused {A} store P answer none is =
    ⊎_elim (λ has. answer_needs_none store answer (none has)) (λ memory. subst (λ (r : Result A Refusal). IfErr r (IsCaused store)) (sym memory) tt) is

-- the cause of a refusal of the second of two steps is its cause over both
caused_later : (tells : Bool) (old between new : StoreView) (refusal : Refusal) → NeverFall old.read_faults between.read_faults → IsCaused (store_over tells between new) refusal → IsCaused (store_over tells old new) refusal
caused_later tells old between new (StoreFault file) rise caused = omega (arith, caused, rise file)
caused_later tells old between new (TooLong file) rise caused = caused
caused_later tells old between new Disk rise caused = absurd caused
caused_later tells old between new other rise caused = tt

answer_caused_later : {A : Type 0} (tells : Bool) (old between new : StoreView) (answer : Result A Refusal) → NeverFall old.read_faults between.read_faults → IfErr answer (IsCaused (store_over tells between new)) → IfErr answer (IsCaused (store_over tells old new))
answer_caused_later tells old between new (Ok x) rise caused = tt
answer_caused_later tells old between new (Err refusal) rise caused = caused_later tells old between new refusal rise caused

-- a step, and a next step from its value
pub then_makes : {A B : Type 0} (tells : Bool) (old between new : StoreView) (first : Step A) (next : A → Step B) (x : A) (answer : Result B Refusal) → Makes (store_over tells old between) first (Ok x) → Makes (store_over tells between new) (next x) answer → Makes (store_over tells old new) (Then first next) answer
then_makes tells old between new first next x answer m n = record {
  reads = m.reads ++ n.reads;
  asked = n.asked ∙ ap (λ asked. with_reads asked n.reads) m.asked ∙ asked_both old.asked m.reads n.reads;
  of_files = All-append (IsOfFile (store_over tells old new)) m.reads n.reads m.of_files
      (All-weaker (IsOfFile (store_over tells between new)) (IsOfFile (store_over tells old new)) (λ read fits. fits_along tells old.files between.files m.files_stay read.name read.answer fits) n.reads n.of_files);
  answers = record { before = m.reads; after = n.reads; split = refl; between = Ok x; answers = m.answers; goes_on = n.answers };
  caused = answer_caused_later tells old between new answer m.read_faults_stay_or_rise n.caused;
  files_stay = λ known name. n.files_stay known name ∙ m.files_stay known name;
  read_faults_stay_or_rise = λ name. omega (arith, m.read_faults_stay_or_rise name, n.read_faults_stay_or_rise name);
  write_faults_stay_or_rise = λ name. omega (arith, m.write_faults_stay_or_rise name, n.write_faults_stay_or_rise name);
}

-- a step that ends the command
pub then_stops : {A B : Type 0} (tells : Bool) (old new : StoreView) (first : Step A) (next : A → Step B) (refusal : Refusal) → Makes (store_over tells old new) first (Err refusal) → Makes {A = B} (store_over tells old new) (Then first next) (Err refusal)
then_stops tells old new first next refusal m = record {
  reads = m.reads;
  asked = m.asked;
  of_files = m.of_files;
  answers = record { before = m.reads; after = []; split = sym (append-nil m.reads); between = Err refusal; answers = m.answers; goes_on = (refl, refl) };
  caused = m.caused;
  files_stay = m.files_stay;
  read_faults_stay_or_rise = m.read_faults_stay_or_rise;
  write_faults_stay_or_rise = m.write_faults_stay_or_rise;
}

-- a step whose refusal `?` hands on
pub then_hands_on : {A B : Type 0} (tells : Bool) (old new : StoreView) (first : Step A) (next : A → Step B) (refusal : Refusal) (answer : Result B Refusal) → IsErrAnd answer (λ e. e ≡ refusal) → Makes (store_over tells old new) first (Err refusal) → Makes (store_over tells old new) (Then first next) answer
then_hands_on tells old new first next refusal answer was m =
    let p = err_from_is_err_and answer was in rw (p.1, p.2) (then_stops tells old new first next refusal m)

-- a step that reads nothing
pub settles : {A : Type 0} (tells : Bool) (view : StoreView) (P : Result A Refusal → Type 0) (answer : Result A Refusal) → P answer ⊎ (answer ≡ Err NoMemory) → IfErr answer (IsCaused (store_over tells view view)) → Makes (store_over tells view view) (Settles P) answer
settles tells view P answer is caused = record {
  reads = [];
  asked = asked_none view.asked;
  of_files = All-nil (IsOfFile (store_over tells view view));
  answers = (refl, is);
  caused = caused;
  files_stay = λ known name. refl;
  read_faults_stay_or_rise = λ name. omega arith;
  write_faults_stay_or_rise = λ name. omega arith;
}

-- a step, and then one that reads nothing
pub then_settles : {A B : Type 0} (tells : Bool) (old new : StoreView) (first : Step A) (P : A → Result B Refusal → Type 0) (x : A) (answer : Result B Refusal) → Makes (store_over tells old new) first (Ok x) → P x answer ⊎ (answer ≡ Err NoMemory) → IfErr answer (IsCaused (store_over tells new new)) → Makes (store_over tells old new) (Then first (λ y. Settles (P y))) answer
then_settles tells old new first P x answer m is caused =
    then_makes tells old new new first (λ y. Settles (P y)) x answer m (settles tells new (P x) answer is caused)

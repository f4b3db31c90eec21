-- Actions that ask a store for one write or for nothing.
use Rattle.std.proofs.Common.{◌≡◌, ℕ, ◌≤◌, Bool, List, [], ◌∷◌, ◌++◌, refl, ap, sym, ◌∙◌, subst, append-nil, inl, inr}
use Rattle.std.proofs.Common.{arith}
use Rattle.std.specs.Prelude.{Result, Ok, Err, OnOk, IfErr, IsErrOf, IsErrAnd, Some, IsTrue, Any}
use Rattle.std.proofs.lemmas.List.Elements.{All-nil}
use Rattle.outside_io.specs.Calls.{Read, Write, Asked, write_of, none_asked}
use Rattle.outside_io.specs.Contents.{Contents, SameFiles, OthersStay, IsTorn}
use Rattle.outside_io.specs.Faults.{Rose, NeverFall}
use Rattle.outside_io.specs.StoreView.{StoreView}
use Rattle.outside_io.specs.declared.store.StoreError.{StoreError}
use Rattle.outside_io.specs.declared.store.StoreError.TheVariants as store_error
use Rattle.line_runs.specs.Store.{AsksToWrite}
use Rattle.live_plant.specs.declared.refusals.refusal.Refusal.{Refusal}
use Rattle.live_plant.specs.declared.refusals.refusal.Refusal.TheVariants.{NoMemory}
use Rattle.live_plant.specs.Actions.{DiskOver, Action, with_asked, LeavesFile, RaisesCount, IsFailedWrite, HasCause}
use Rattle.live_plant.specs.Actions.{Does, DoesOnStore, DoesOnDisk}
use Rattle.live_plant.specs.Outside.{StoreOver, store_over, IsOfFile}
use Rattle.commands.specs.Saving.{AnswersWrite, SavesText}
use Rattle.answers.specs.declared.answer.Answer.{Answer}

-- nothing more was asked
asked_nothing : (asked : Asked) → asked ≡ with_asked asked none_asked
asked_nothing asked =
    ap (λ (reads : List Read). record asked { reads = reads }) (sym (append-nil asked.reads))
    ∙ ap (λ (writes : List Write). record { reads = asked.reads ++ []; writes = writes })
    (sym (append-nil asked.writes))

-- no memory needs no cause
pub no_memory_caused : {A : Type 0} (store : StoreOver) (disk : DiskOver) (writes : List Write)
    (answer : Result A Refusal) → answer ≡ Err NoMemory → IfErr answer (HasCause store disk writes)
no_memory_caused store disk writes answer is = subst (λ a. IfErr a (HasCause store disk writes)) (sym is) tt

-- what a `?` makes of no memory
pub is_no_memory : {A : Type 0} (answer : Result A Refusal) → IsErrAnd answer (λ refusal. refusal ≡ NoMemory) →
    answer ≡ Err NoMemory
is_no_memory (Ok x) is = absurd is
is_no_memory (Err refusal) is = ap (λ (r : Refusal). Err r) is

-- an action that answers what another one answers
pub does_also : {A : Type 0} (store : StoreOver) (disk : DiskOver) (action other : Action A)
    (answer : Result A Refusal) → ((asked : Asked) → action asked disk answer → other asked disk answer) →
    Does store disk action answer → Does store disk other answer
does_also store disk action other answer also does = record {
  asks = does.asks;
  asked = does.asked;
  of_files = does.of_files;
  changes = does.changes;
  answers = also does.asks does.answers;
  caused = does.caused;
  read_faults_stay_or_rise = does.read_faults_stay_or_rise;
  write_faults_stay_or_rise = does.write_faults_stay_or_rise;
  disk_faults_stay_or_rise = does.disk_faults_stay_or_rise;
}

-- an action that asks nothing of the store
pub does_nothing : {A : Type 0} (tells : Bool) (view : StoreView) (disk : DiskOver) (action : Action A)
    (answer : Result A Refusal) → disk.old.faults ≤ disk.new.faults →
    IfErr answer (HasCause (store_over tells view view) disk []) → action none_asked disk answer →
    Does (store_over tells view view) disk action answer
does_nothing tells view disk action answer rise caused answers = record {
  asks = none_asked;
  asked = asked_nothing view.asked;
  of_files = All-nil (IsOfFile (store_over tells view view));
  changes = λ known name. refl;
  answers = answers;
  caused = caused;
  read_faults_stay_or_rise = λ name. omega arith;
  write_faults_stay_or_rise = λ name. omega arith;
  disk_faults_stay_or_rise = rise;
}

-- the count of faults of a disk that stays
pub stays_low : (disk : DiskOver) → disk.new ≡ disk.old → disk.old.faults ≤ disk.new.faults
stays_low disk same = subst (λ view. disk.old.faults ≤ view.faults) (sym same) (omega arith)

-- nothing is asked of a store
pub leaves_store : {A : Type 0} (tells : Bool) (view : StoreView) (action : Action A) (answer : Result A Refusal) →
    ((disk : DiskOver) → IfErr answer (HasCause (store_over tells view view) disk [])) →
    ((disk : DiskOver) → disk.new ≡ disk.old → action none_asked disk answer) →
    DoesOnStore (store_over tells view view) action answer
leaves_store tells view action answer caused answers =
    λ disk same. does_nothing tells view disk action answer (stays_low disk same) (caused disk) (answers disk same)

-- a disk alone is used
pub uses_disk : {A : Type 0} (disk : DiskOver) (action : Action A) (answer : Result A Refusal) →
    disk.old.faults ≤ disk.new.faults → ((store : StoreOver) → IfErr answer (HasCause store disk [])) →
    action none_asked disk answer → DoesOnDisk disk action answer
uses_disk disk action answer rise caused answers =
    λ tells view. does_nothing tells view disk action answer rise (caused (store_over tells view view)) answers

-- ---- a text is written to a file

-- what a store was asked that was to write a text, what it answered, and what this left
pub record Saved (tells : Bool) (old new : StoreView) (file bytes : List ℕ)
    (given : Result (Unit {0}) StoreError) : Type 0 where
  pub known : AsksToWrite old.asked new.asked file bytes given
  pub leaves : LeavesFile tells old.files new.files file bytes given
  pub others_stay : OthersStay tells old.files new.files file
  pub no_memory : IsErrOf given store_error.NoMemory → SameFiles tells old.files new.files
  pub raises : RaisesCount (old.write_faults file) (new.write_faults file) given
  pub read_faults : NeverFall old.read_faults new.read_faults
  pub write_faults : NeverFall old.write_faults new.write_faults

pub leaves_file : (tells : Bool) (old new : Contents) (file bytes : List ℕ) (given : Result (Unit {0}) StoreError) →
    OnOk given (IsTrue tells → new file ≡ Some bytes) →
    (IsErrOf given store_error.Failed → IsTrue tells → IsTorn (old file) (new file) bytes) →
    (IsErrOf given store_error.NoMemory → SameFiles tells old new) → ¬ (IsErrOf given store_error.TooLong) →
    LeavesFile tells old new file bytes given
leaves_file tells old new file bytes (Ok done) written torn same never = written
leaves_file tells old new file bytes (Err store_error.Failed) written torn same never = torn refl
leaves_file tells old new file bytes (Err store_error.NoMemory) written torn same never = λ known. same refl known file
leaves_file tells old new file bytes (Err store_error.TooLong) written torn same never = absurd (never refl)

pub raises_count : (old new : ℕ) (given : Result (Unit {0}) StoreError) →
    (IsErrOf given store_error.Failed → Rose old new) → RaisesCount old new given
raises_count old new (Ok done) cause = tt
raises_count old new (Err store_error.Failed) cause = cause refl
raises_count old new (Err store_error.NoMemory) cause = tt
raises_count old new (Err store_error.TooLong) cause = tt

pub state_saved : (tells : Bool) (old new : StoreView) (file bytes : List ℕ) (given : Result (Unit {0}) StoreError) →
    AsksToWrite old.asked new.asked file bytes given → OnOk given (IsTrue tells → new.files file ≡ Some bytes) →
    OthersStay tells old.files new.files file →
    (IsErrOf given store_error.Failed → IsTrue tells → IsTorn (old.files file) (new.files file) bytes) →
    (IsErrOf given store_error.NoMemory → SameFiles tells old.files new.files) → ¬ (IsErrOf given store_error.TooLong) →
    (IsErrOf given store_error.Failed → Rose (old.write_faults file) (new.write_faults file)) →
    NeverFall old.read_faults new.read_faults → NeverFall old.write_faults new.write_faults →
    Saved tells old new file bytes given
state_saved tells old new file bytes given known written others torn no_memory never cause reads writes = record {
  known = known;
  leaves = leaves_file tells old.files new.files file bytes given written torn no_memory never;
  others_stay = others;
  no_memory = no_memory;
  raises = raises_count (old.write_faults file) (new.write_faults file) given cause;
  read_faults = reads;
  write_faults = writes;
}

-- a write that failed
one_failed : (file bytes : List ℕ) → Any (IsFailedWrite file) (write_of file bytes (Err store_error.Failed) ∷ [])
one_failed file bytes = (0, write_of file bytes (Err store_error.Failed), omega arith, refl, (refl, refl))

-- a refusal to a write has its cause
write_caused : (store : StoreOver) (disk : DiskOver) (file bytes : List ℕ) (count : ℕ)
    (given : Result (Unit {0}) StoreError) (answer : Result Answer Refusal) →
    RaisesCount (store.old.write_faults file) (store.new.write_faults file) given →
    AnswersWrite file count given answer → IfErr answer (HasCause store disk (write_of file bytes given ∷ []))
write_caused store disk file bytes count (Ok done) answer raises answers =
    subst (λ a. IfErr a (HasCause store disk (write_of file bytes (Ok done) ∷ []))) (sym answers) tt
write_caused store disk file bytes count (Err store_error.Failed) answer raises answers =
    subst (λ a. IfErr a (HasCause store disk (write_of file bytes (Err store_error.Failed) ∷ []))) (sym answers)
    (inr (one_failed file bytes, raises))
write_caused store disk file bytes count (Err store_error.TooLong) answer raises answers = absurd answers
write_caused store disk file bytes count (Err store_error.NoMemory) answer raises answers =
    no_memory_caused store disk (write_of file bytes (Err store_error.NoMemory) ∷ []) answer answers

-- the text was written, or not, and this is the answer
saves_written : (tells : Bool) (old new : StoreView) (file bytes : List ℕ) (count : ℕ)
    (given : Result (Unit {0}) StoreError) (answer : Result Answer Refusal) → Saved tells old new file bytes given →
    AnswersWrite file count given answer → (disk : DiskOver) → disk.new ≡ disk.old →
    AsksToWrite old.asked new.asked file bytes given →
    Does (store_over tells old new) disk (SavesText file bytes count) answer
saves_written tells old new file bytes count given answer saved answers disk same (inl asked) = record {
  asks = record { reads = []; writes = record { name = file; bytes = bytes; answer = given } ∷ [] };
  asked = asked
      ∙ ap (λ (reads : List Read). record {
        reads = reads;
        writes = old.asked.writes ++ record
            { name = file; bytes = bytes; answer = given } ∷ [];
      }) (sym (append-nil old.asked.reads));
  of_files = All-nil (IsOfFile (store_over tells old new));
  changes = record { leaves = saved.leaves; others_stay = saved.others_stay; raises = saved.raises };
  answers = (same, inl (record { given = given; writes = refl; answers = answers }));
  caused = write_caused (store_over tells old new) disk file bytes count given answer saved.raises answers;
  read_faults_stay_or_rise = saved.read_faults;
  write_faults_stay_or_rise = saved.write_faults;
  disk_faults_stay_or_rise = stays_low disk same;
}
saves_written tells old new file bytes count given answer saved answers disk same (inr none) =
    let is : answer ≡ Err NoMemory = subst (λ g. AnswersWrite file count g answer) none.0 answers in
    record {
      asks = none_asked;
      asked = none.1 ∙ asked_nothing old.asked;
      of_files = All-nil (IsOfFile (store_over tells old new));
      changes = saved.no_memory (subst (λ g. IsErrOf g store_error.NoMemory) (sym none.0) refl);
      answers = (same, inr (refl, is));
      caused = no_memory_caused (store_over tells old new) disk [] answer is;
      read_faults_stay_or_rise = saved.read_faults;
      write_faults_stay_or_rise = saved.write_faults;
      disk_faults_stay_or_rise = stays_low disk same;
    }

pub saves_text : (tells : Bool) (old new : StoreView) (file bytes : List ℕ) (count : ℕ)
    (given : Result (Unit {0}) StoreError) (answer : Result Answer Refusal) → Saved tells old new file bytes given →
    AnswersWrite file count given answer → DoesOnStore (store_over tells old new) (SavesText file bytes count) answer
saves_text tells old new file bytes count given answer saved answers =
    λ disk same. saves_written tells old new file bytes count given answer saved answers disk same saved.known

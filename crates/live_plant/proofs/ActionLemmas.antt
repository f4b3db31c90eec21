-- Steps, and then an action.
use Rattle.std.proofs.Common.{◌≡◌, ◌⊎◌, ℕ, ◌≤◌, Bool, List, [], ◌∷◌, ◌++◌, refl, ap, sym, ◌∙◌, subst, append_assoc, append-nil, inl, inr, ⊎_elim, arith}
use Rattle.std.specs.Prelude.{Result, Ok, Err, IfErr, IsErrAnd}
use Rattle.std.proofs.lemmas.Result.{err_from_is_err_and}
use Rattle.std.proofs.lemmas.List.Elements.{All-append, All-weaker}
use Rattle.crash_disk.specs.DiskView.{DiskView}
use Rattle.outside_io.specs.Calls.{Read, Write, Asked}
use Rattle.outside_io.specs.Contents.{Contents, SameFiles, IsTorn}
use Rattle.outside_io.specs.Faults.{NeverFall}
use Rattle.outside_io.specs.StoreView.{StoreView}
use Rattle.outside_io.specs.declared.store.StoreError.{StoreError}
use Rattle.outside_io.specs.declared.store.StoreError.TheVariants as store_error
use Rattle.live_plant.specs.declared.refusals.refusal.Refusal.{Refusal}
use Rattle.live_plant.specs.declared.refusals.refusal.Refusal.TheVariants.{NoMemory, StoreFault, TooLong, Disk}
use Rattle.live_plant.specs.Actions.{DiskOver, Action, Plainly, ThenDoes, with_asked, LeavesFile, RaisesCount, Changes, HasCause, Does, DoesOnStore, DoesOnDisk}
use Rattle.live_plant.specs.Outside.{StoreOver, store_over, with_reads, IsOfFile, IsCaused, NeedsNoCause}
use Rattle.live_plant.specs.Steps.{Step, Settles, Then, Makes}
use Rattle.live_plant.proofs.StepLemmas.{fits_along, settled_is_caused, settles, then_makes, then_settles, then_stops}

-- reads more, as reads and writes more
reads_asked : (asked : Asked) (reads : List Read) → with_reads asked reads ≡ with_asked asked (record { reads = reads; writes = [] })
reads_asked asked reads = ap (λ (writes : List Write). record asked { reads = asked.reads ++ reads; writes = writes }) (sym (append-nil asked.writes))

-- the cause of a refusal of a step is one of an action
cause_of : (store : StoreOver) (disk : DiskOver) (writes : List Write) (refusal : Refusal) → IsCaused store refusal → HasCause store disk writes refusal
cause_of store disk writes (StoreFault file) caused = inl caused
cause_of store disk writes (TooLong file) caused = caused
cause_of store disk writes Disk caused = absurd caused
cause_of store disk writes other caused = tt

answer_cause_of : {A : Type 0} (store : StoreOver) (disk : DiskOver) (writes : List Write) (answer : Result A Refusal) → IfErr answer (IsCaused store) → IfErr answer (HasCause store disk writes)
answer_cause_of store disk writes (Ok x) caused = tt
answer_cause_of store disk writes (Err refusal) caused = cause_of store disk writes refusal caused

-- a step is an action that writes nothing and leaves the disk
pub plainly : {A : Type 0} (store : StoreOver) (disk : DiskOver) (step : Step A) (answer : Result A Refusal) → disk.new ≡ disk.old → Makes store step answer → Does store disk (Plainly step) answer
plainly store disk step answer same m = record {
  asks = record { reads = m.reads; writes = [] };
  asked = m.asked ∙ reads_asked store.old.asked m.reads;
  of_files = m.of_files;
  changes = m.files_stay;
  answers = record { unwritten = refl; untouched = same; answers = m.answers };
  caused = answer_cause_of store disk [] answer m.caused;
  read_faults_stay_or_rise = m.read_faults_stay_or_rise;
  write_faults_stay_or_rise = m.write_faults_stay_or_rise;
  disk_faults_stay_or_rise = subst (λ (view : DiskView). disk.old.faults ≤ view.faults) (sym same) (omega arith);
}

-- what is written to files that are as they were
leaves_along : (tells : Bool) (old between new : Contents) → SameFiles tells old between → (name bytes : List ℕ) (answer : Result (Unit {0}) StoreError) → LeavesFile tells between new name bytes answer → LeavesFile tells old new name bytes answer
leaves_along tells old between new same name bytes (Ok done) leaves = leaves
leaves_along tells old between new same name bytes (Err store_error.Failed) leaves = λ known. subst (λ v. IsTorn v (new name) bytes) (same known name) (leaves known)
leaves_along tells old between new same name bytes (Err store_error.NoMemory) leaves = λ known. leaves known ∙ same known name
leaves_along tells old between new same name bytes (Err store_error.TooLong) leaves = leaves

raises_along : (old between new : ℕ) (answer : Result (Unit {0}) StoreError) → old ≤ between → RaisesCount between new answer → RaisesCount old new answer
raises_along old between new (Ok done) low raises = tt
raises_along old between new (Err store_error.Failed) low raises = omega (arith, low, raises)
raises_along old between new (Err store_error.NoMemory) low raises = tt
raises_along old between new (Err store_error.TooLong) low raises = tt

changes_along : (tells : Bool) (old between new : StoreView) → SameFiles tells old.files between.files → NeverFall old.write_faults between.write_faults → (writes : List Write) → Changes (store_over tells between new) writes → Changes (store_over tells old new) writes
changes_along tells old between new same rise [] changes = λ known name. changes known name ∙ same known name
changes_along tells old between new same rise (w ∷ []) changes = record {
  leaves = leaves_along tells old.files between.files new.files same w.name w.bytes w.answer changes.leaves;
  others_stay = λ known name other. changes.others_stay known name other ∙ same known name;
  raises = raises_along (old.write_faults w.name) (between.write_faults w.name) (new.write_faults w.name) w.answer (rise w.name) changes.raises;
}
changes_along tells old between new same rise (w ∷ v ∷ more) changes = absurd changes

-- the cause of a refusal of the second of two is its cause over both
cause_along : (tells : Bool) (old between new : StoreView) (disk : DiskOver) (asked : List Write) (refusal : Refusal) → NeverFall old.read_faults between.read_faults → NeverFall old.write_faults between.write_faults → HasCause (store_over tells between new) disk asked refusal → HasCause (store_over tells old new) disk asked refusal
cause_along tells old between new disk asked (StoreFault file) reads writes cause =
    ⊎_elim (λ rose. inl (omega (arith, rose, reads file))) (λ rose. inr (rose.0, omega (arith, rose.1, writes file))) cause
cause_along tells old between new disk asked (TooLong file) reads writes cause = cause
cause_along tells old between new disk asked Disk reads writes cause = cause
cause_along tells old between new disk asked other reads writes cause = tt

answer_cause_along : {A : Type 0} (tells : Bool) (old between new : StoreView) (disk : DiskOver) (asked : List Write) (answer : Result A Refusal) → NeverFall old.read_faults between.read_faults → NeverFall old.write_faults between.write_faults → IfErr answer (HasCause (store_over tells between new) disk asked) → IfErr answer (HasCause (store_over tells old new) disk asked)
answer_cause_along tells old between new disk asked (Ok x) reads writes caused = tt
answer_cause_along tells old between new disk asked (Err refusal) reads writes caused = cause_along tells old between new disk asked refusal reads writes caused

-- reads, and then what an action asks
asked_after : (asked : Asked) (reads : List Read) (more : Asked) → with_asked (with_reads asked reads) more ≡ with_asked asked (record more { reads = reads ++ more.reads })
asked_after asked reads more = ap (λ (r : List Read). record asked { reads = r; writes = asked.writes ++ more.writes }) (append_assoc asked.reads reads more.reads)

-- a step, and an action from its value
pub then_does : {A B : Type 0} (tells : Bool) (old between new : StoreView) (disk : DiskOver) (first : Step A) (next : A → Action B) (x : A) (answer : Result B Refusal) → Makes (store_over tells old between) first (Ok x) → Does (store_over tells between new) disk (next x) answer → Does (store_over tells old new) disk (ThenDoes first next) answer
then_does tells old between new disk first next x answer m n = record {
  asks = record n.asks { reads = m.reads ++ n.asks.reads };
  asked = n.asked ∙ ap (λ asked. with_asked asked n.asks) m.asked ∙ asked_after old.asked m.reads n.asks;
  of_files = All-append (IsOfFile (store_over tells old new)) m.reads n.asks.reads m.of_files
      (All-weaker (IsOfFile (store_over tells between new)) (IsOfFile (store_over tells old new)) (λ read fits. fits_along tells old.files between.files m.files_stay read.name read.answer fits) n.asks.reads n.of_files);
  changes = changes_along tells old between new m.files_stay m.write_faults_stay_or_rise n.asks.writes n.changes;
  answers = record { before = m.reads; after = n.asks.reads; split = refl; between = Ok x; answers = m.answers; does_on = n.answers };
  caused = answer_cause_along tells old between new disk n.asks.writes answer m.read_faults_stay_or_rise m.write_faults_stay_or_rise n.caused;
  read_faults_stay_or_rise = λ name. omega (arith, m.read_faults_stay_or_rise name, n.read_faults_stay_or_rise name);
  write_faults_stay_or_rise = λ name. omega (arith, m.write_faults_stay_or_rise name, n.write_faults_stay_or_rise name);
  disk_faults_stay_or_rise = n.disk_faults_stay_or_rise;
}

-- a step that ends the command
pub stops_before : {A B : Type 0} (tells : Bool) (old new : StoreView) (disk : DiskOver) (first : Step A) (next : A → Action B) (refusal : Refusal) → disk.new ≡ disk.old → Makes (store_over tells old new) first (Err refusal) → Does {A = B} (store_over tells old new) disk (ThenDoes first next) (Err refusal)
stops_before tells old new disk first next refusal same m = record {
  asks = record { reads = m.reads; writes = [] };
  asked = m.asked ∙ reads_asked old.asked m.reads;
  of_files = m.of_files;
  changes = m.files_stay;
  answers = record { before = m.reads; after = []; split = sym (append-nil m.reads); between = Err refusal; answers = m.answers; does_on = (refl, same, refl) };
  caused = cause_of (store_over tells old new) disk [] refusal m.caused;
  read_faults_stay_or_rise = m.read_faults_stay_or_rise;
  write_faults_stay_or_rise = m.write_faults_stay_or_rise;
  disk_faults_stay_or_rise = subst (λ (view : DiskView). disk.old.faults ≤ view.faults) (sym same) (omega arith);
}

-- a step, and an action that leaves every disk
pub then_does_on_store : {A B : Type 0} (tells : Bool) (old between new : StoreView) (disk : DiskOver) (first : Step A) (next : A → Action B) (x : A) (answer : Result B Refusal) → disk.new ≡ disk.old → Makes (store_over tells old between) first (Ok x) → DoesOnStore (store_over tells between new) (next x) answer → Does (store_over tells old new) disk (ThenDoes first next) answer
then_does_on_store tells old between new disk first next x answer same m n =
    then_does tells old between new disk first next x answer m (n disk same)

-- a step, and an action that leaves every store
pub then_does_on_disk : {A B : Type 0} (tells : Bool) (old new : StoreView) (disk : DiskOver) (first : Step A) (next : A → Action B) (x : A) (answer : Result B Refusal) → Makes (store_over tells old new) first (Ok x) → DoesOnDisk disk (next x) answer → Does (store_over tells old new) disk (ThenDoes first next) answer
then_does_on_disk tells old new disk first next x answer m n =
    then_does tells old new new disk first next x answer m (n tells new)

-- an answer before anything is asked
pub settles_plainly : {A : Type 0} (tells : Bool) (view : StoreView) (disk : DiskOver) (P : Result A Refusal → Type 0) (answer : Result A Refusal) → disk.new ≡ disk.old → (P answer → IfErr answer NeedsNoCause) → P answer ⊎ (answer ≡ Err NoMemory) → Does (store_over tells view view) disk (Plainly (Settles P)) answer
settles_plainly tells view disk P answer same none is =
    plainly (store_over tells view view) disk (Settles P) answer same
    (settles tells view P answer is (settled_is_caused (store_over tells view view) P answer none is))

-- a step, and then an answer for which nothing more is asked
pub then_settles_plainly : {A B : Type 0} (tells : Bool) (old new : StoreView) (disk : DiskOver) (first : Step A) (P : A → Result B Refusal → Type 0) (x : A) (answer : Result B Refusal) → disk.new ≡ disk.old → Makes (store_over tells old new) first (Ok x) → (P x answer → IfErr answer NeedsNoCause) → P x answer ⊎ (answer ≡ Err NoMemory) → Does (store_over tells old new) disk (Plainly (Then first (λ y. Settles (P y)))) answer
then_settles_plainly tells old new disk first P x answer same m none is =
    plainly (store_over tells old new) disk (Then first (λ y. Settles (P y))) answer same
    (then_settles tells old new first P x answer m is (settled_is_caused (store_over tells new new) (P x) answer none is))

-- a step that ends the command, with no action
pub then_stops_plainly : {A B : Type 0} (tells : Bool) (old new : StoreView) (disk : DiskOver) (first : Step A) (next : A → Step B) (refusal : Refusal) → disk.new ≡ disk.old → Makes (store_over tells old new) first (Err refusal) → Does {A = B} (store_over tells old new) disk (Plainly (Then first next)) (Err refusal)
then_stops_plainly tells old new disk first next refusal same m =
    plainly (store_over tells old new) disk (Then first next) (Err refusal) same (then_stops tells old new first next refusal m)

-- two steps, and then an answer for which nothing more is asked
pub both_settle_plainly : {A B C : Type 0} (tells : Bool) (old between new : StoreView) (disk : DiskOver) (first : Step A) (second : A → Step B) (P : A → B → Result C Refusal → Type 0) (x : A) (y : B) (answer : Result C Refusal) → disk.new ≡ disk.old → Makes (store_over tells old between) first (Ok x) → Makes (store_over tells between new) (second x) (Ok y) → (P x y answer → IfErr answer NeedsNoCause) → P x y answer ⊎ (answer ≡ Err NoMemory) → Does (store_over tells old new) disk (Plainly (Then first (λ a. Then (second a) (λ b. Settles (P a b))))) answer
both_settle_plainly tells old between new disk first second P x y answer same m n none is =
    plainly (store_over tells old new) disk (Then first (λ a. Then (second a) (λ b. Settles (P a b)))) answer same
    (then_makes tells old between new first (λ a. Then (second a) (λ b. Settles (P a b))) x answer m
    (then_settles tells between new (second x) (P x) y answer n is (settled_is_caused (store_over tells new new) (P x y) answer none is)))

-- two steps, of which the second ends the command
pub second_stops_plainly : {A B C : Type 0} (tells : Bool) (old between new : StoreView) (disk : DiskOver) (first : Step A) (second : A → Step B) (next : A → B → Step C) (x : A) (refusal : Refusal) → disk.new ≡ disk.old → Makes (store_over tells old between) first (Ok x) → Makes (store_over tells between new) (second x) (Err refusal) → Does {A = C} (store_over tells old new) disk (Plainly (Then first (λ a. Then (second a) (next a)))) (Err refusal)
second_stops_plainly {A} {B} {C} tells old between new disk first second next x refusal same m n =
    plainly (store_over tells old new) disk (Then first (λ a. Then (second a) (next a))) (Err refusal) same
    (then_makes {A = A} {B = C} tells old between new first (λ a. Then (second a) (next a)) x (Err refusal) m
    (then_stops tells between new (second x) (next x) refusal n))

-- The same where `?` hands the refusal on: before an action
pub hands_on_before : {A B : Type 0} (tells : Bool) (old new : StoreView) (disk : DiskOver) (first : Step A) (next : A → Action B) (refusal : Refusal) (answer : Result B Refusal) → disk.new ≡ disk.old → IsErrAnd answer (λ e. e ≡ refusal) → Makes (store_over tells old new) first (Err refusal) → Does (store_over tells old new) disk (ThenDoes first next) answer
hands_on_before tells old new disk first next refusal answer same was m =
    let p = err_from_is_err_and answer was in rw (p.1, p.2) (stops_before tells old new disk first next refusal same m)

-- from a step
pub hands_on_plainly : {A B : Type 0} (tells : Bool) (old new : StoreView) (disk : DiskOver) (first : Step A) (next : A → Step B) (refusal : Refusal) (answer : Result B Refusal) → disk.new ≡ disk.old → IsErrAnd answer (λ e. e ≡ refusal) → Makes (store_over tells old new) first (Err refusal) → Does (store_over tells old new) disk (Plainly (Then first next)) answer
hands_on_plainly tells old new disk first next refusal answer same was m =
    let p = err_from_is_err_and answer was in rw (p.1, p.2) (then_stops_plainly tells old new disk first next refusal same m)

-- from the second of two steps
pub second_hands_on_plainly : {A B C : Type 0} (tells : Bool) (old between new : StoreView) (disk : DiskOver) (first : Step A) (second : A → Step B) (next : A → B → Step C) (x : A) (refusal : Refusal) (answer : Result C Refusal) → disk.new ≡ disk.old → IsErrAnd answer (λ e. e ≡ refusal) → Makes (store_over tells old between) first (Ok x) → Makes (store_over tells between new) (second x) (Err refusal) → Does (store_over tells old new) disk (Plainly (Then first (λ a. Then (second a) (next a)))) answer
second_hands_on_plainly tells old between new disk first second next x refusal answer same was m n =
    let p = err_from_is_err_and answer was in rw (p.1, p.2) (second_stops_plainly tells old between new disk first second next x refusal same m n)

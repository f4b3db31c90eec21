-- The last step of a command, which may also write a file, and use the slots of a disk.
use Rattle.std.specs.Prelude.{◌≡◌, ◌⊎◌, ℕ, ◌<◌, ◌≤◌, List, [], ◌∷◌, ◌++◌, Bool, IsTrue, Some, Result, Ok, Err, IfErr, All, Any, ⊤}
use Rattle.crash_disk.specs.DiskView.{DiskView}
use Rattle.outside_io.specs.Calls.{Read, Write, Asked, none_asked}
use Rattle.outside_io.specs.Contents.{Contents, SameFiles, OthersStay, IsTorn}
use Rattle.outside_io.specs.Faults.{Rose, NeverFall}
use Rattle.outside_io.specs.StoreView.{StoreView}
use Rattle.outside_io.specs.declared.store.StoreError.{StoreError}
use Rattle.outside_io.specs.declared.store.StoreError.TheVariants as store_error
use Rattle.live_plant.specs.declared.refusals.refusal.Refusal.{Refusal}
use Rattle.live_plant.specs.declared.refusals.refusal.Refusal.TheVariants.{Disk, StoreFault, TooLong}
use Rattle.live_plant.specs.Outside.{StoreOver, store_over, limit_of, IsOfFile}

-- a disk over a call: whether it is known what it holds, and what it shows before the call and after it
pub record DiskOver : Type 0 where
  pub tells : Bool
  pub old : DiskView
  pub new : DiskView

-- a disk by what it shows
abbrev pub disk_over : Bool → DiskView → DiskView → DiskOver
disk_over tells old new = record { tells = tells; old = old; new = new }

-- what a step asks of the store, what becomes of the disk, and what the step answers
abbrev pub Action : Type 0 → Type 1
Action A = Asked → DiskOver → Result A Refusal → Type 0

-- a step that writes nothing and leaves the disk
pub record Plainly {A : Type 0} (step : List Read → Result A Refusal → Type 0) (asked : Asked) (disk : DiskOver)
    (answer : Result A Refusal) : Type 0 where
  pub unwritten : asked.writes ≡ []
  pub untouched : disk.new ≡ disk.old
  pub answers : step asked.reads answer

-- an action goes on with a value; a refusal ends the command, and nothing more is asked or touched
abbrev pub DoesOn : {A B : Type 0} → (A → Action B) → Result A Refusal → Action B
DoesOn next (Ok x) asked disk answer = next x asked disk answer
DoesOn next (Err refusal) asked disk answer = (asked ≡ none_asked) × (disk.new ≡ disk.old) × (answer ≡ Err refusal)

-- one step, and then an action
pub record ThenDoes {A B : Type 0} (first : List Read → Result A Refusal → Type 0)
    (next : A → Asked → DiskOver → Result B Refusal → Type 0) (asked : Asked) (disk : DiskOver)
    (answer : Result B Refusal) : Type 0 where
  pub before : List Read
  pub after : List Read
  pub split : asked.reads ≡ before ++ after
  pub between : Result A Refusal
  pub answers : first before between
  pub does_on : DoesOn next between (record asked { reads = after }) disk answer

-- these reads and writes more
abbrev pub with_asked : Asked → Asked → Asked
with_asked old more = record { reads = old.reads ++ more.reads; writes = old.writes ++ more.writes }

-- What a write left of its file, where the store's files are known: the bytes; a prefix of them, or what was there,
-- where it failed; what was there, where there was no memory.
abbrev pub LeavesFile : Bool → Contents → Contents → List ℕ → List ℕ → Result (Unit {0}) StoreError → Type 0
LeavesFile tells old new name bytes (Ok done) = IsTrue tells → new name ≡ Some bytes
LeavesFile tells old new name bytes (Err store_error.Failed) = IsTrue tells → IsTorn (old name) (new name) bytes
LeavesFile tells old new name bytes (Err store_error.NoMemory) = IsTrue tells → new name ≡ old name
LeavesFile tells old new name bytes (Err store_error.TooLong) = ⊥

-- a write that failed raised the count of failed writes of its file
abbrev pub RaisesCount : ℕ → ℕ → Result (Unit {0}) StoreError → Type 0
RaisesCount old new (Err store_error.Failed) = Rose old new
RaisesCount old new other = ⊤

-- one write over a call: its file is left so, and the others stay
pub record WritesOne (store : StoreOver) (w : Write) : Type 0 where
  pub leaves : LeavesFile store.tells store.old.files store.new.files w.name w.bytes w.answer
  pub others_stay : OthersStay store.tells store.old.files store.new.files w.name
  pub raises : RaisesCount (store.old.write_faults w.name) (store.new.write_faults w.name) w.answer

-- the writes of a call: none, and the files are as they were, or one
abbrev pub Changes : StoreOver → List Write → Type 0
Changes store [] = SameFiles store.tells store.old.files store.new.files
Changes store (w ∷ []) = WritesOne store w
Changes store more = ⊥

-- a write of this file failed
abbrev pub IsFailedWrite : List ℕ → Write → Type 0
IsFailedWrite file w = (w.name ≡ file) × (w.answer ≡ Err store_error.Failed)

-- A file that couldn't be read has a count of failed reads that rose in this call; of one that couldn't be written a
-- write failed in this call, and its count of failed writes rose; of one that is too long more bytes than its limit
-- were taken; and the disk's count of faults rose where it is said to have failed.
abbrev pub HasCause : StoreOver → DiskOver → List Write → Refusal → Type 0
HasCause store disk writes (StoreFault file) =
    Rose (store.old.read_faults file) (store.new.read_faults file)
    ⊎ (Any (IsFailedWrite file) writes × Rose (store.old.write_faults file) (store.new.write_faults file))
HasCause store disk writes (TooLong file) = limit_of file < store.new.taken
HasCause store disk writes Disk = Rose disk.old.faults disk.new.faults
HasCause store disk writes other = ⊤

-- A store and a disk over a call that takes an action: what this call asked of the store is what the action asks, and
-- nothing else; each read fits its file; the files are changed by the writes alone; and a refusal has its cause.
pub record Does {A : Type 0} (store : StoreOver) (disk : DiskOver)
    (action : Asked → DiskOver → Result A Refusal → Type 0) (answer : Result A Refusal) : Type 0 where
  pub asks : Asked
  pub asked : store.new.asked ≡ with_asked store.old.asked asks
  pub of_files : All (IsOfFile store) asks.reads
  pub changes : Changes store asks.writes
  pub answers : action asks disk answer
  pub caused : IfErr answer (HasCause store disk asks.writes)
  pub read_faults_stay_or_rise : NeverFall store.old.read_faults store.new.read_faults
  pub write_faults_stay_or_rise : NeverFall store.old.write_faults store.new.write_faults
  pub disk_faults_stay_or_rise : disk.old.faults ≤ disk.new.faults

-- an action that leaves every disk
abbrev pub DoesOnStore : {A : Type 0} → StoreOver → (Asked → DiskOver → Result A Refusal → Type 0) → Result A Refusal →
    Type 0
DoesOnStore store action answer = (disk : DiskOver) → disk.new ≡ disk.old → Does store disk action answer

-- an action that leaves every store
abbrev pub DoesOnDisk : {A : Type 0} → DiskOver → (Asked → DiskOver → Result A Refusal → Type 0) → Result A Refusal
    → Type 0
DoesOnDisk disk action answer = (tells : Bool) (view : StoreView) → Does (store_over tells view view) disk action answer

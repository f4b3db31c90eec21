-- A store and a sink over a call.
use Rattle.std.specs.Prelude.{◌≡◌, ℕ, ◌<◌, ◌≤◌, List, ◌++◌, length, Bool, IsTrue, if◌then◌else◌, Some, Result, Ok, Err, ⊤}
use Rattle.line_base.specs.Limits.{most_file_bytes, most_checkpoint_bytes}
use Rattle.line_base.specs.Text.{is_checkpoint_name}
use Rattle.outside_io.specs.Calls.{Read, Asked}
use Rattle.outside_io.specs.Contents.{Contents, IsLongerThan}
use Rattle.outside_io.specs.Faults.{Rose}
use Rattle.outside_io.specs.SinkView.{SinkView}
use Rattle.outside_io.specs.StoreView.{StoreView}
use Rattle.outside_io.specs.declared.store.StoreError.{StoreError}
use Rattle.outside_io.specs.declared.store.StoreError.TheVariants as store_error
use Rattle.live_plant.specs.declared.refusals.refusal.Refusal.{Refusal}
use Rattle.live_plant.specs.declared.refusals.refusal.Refusal.TheVariants.{Disk, StoreFault, TooLong}

-- a store over a call: whether it is known what its files hold, and what it shows before the call and after it
pub record StoreOver : Type 0 where
  pub tells : Bool
  pub old : StoreView
  pub new : StoreView

-- a sink over a call: what it shows before the call and after it
pub record SinkOver : Type 0 where
  pub old : SinkView
  pub new : SinkView

-- a store, and a sink, by what they show
abbrev pub store_over : Bool → StoreView → StoreView → StoreOver
store_over tells old new = record { tells = tells; old = old; new = new }

abbrev pub sink_over : SinkView → SinkView → SinkOver
sink_over old new = record { old = old; new = new }

-- these reads more, and nothing else was asked
abbrev pub with_reads : Asked → List Read → Asked
with_reads asked reads = record asked { reads = asked.reads ++ reads }

-- the most bytes of a file of this name
abbrev pub limit_of : List ℕ → ℕ
limit_of name = if is_checkpoint_name name then most_checkpoint_bytes else most_file_bytes

-- What a read answered fits what the file holds, where that is known: the bytes are its bytes, and a file that
-- is called too long is. No bytes are above the limit.
abbrev pub Fits : Bool → Contents → List ℕ → Result (List ℕ) StoreError → Type 0
Fits tells files name (Ok bytes) = (length bytes ≤ limit_of name) × (IsTrue tells → files name ≡ Some bytes)
Fits tells files name (Err store_error.TooLong) = IsTrue tells → IsLongerThan (limit_of name) (files name)
Fits tells files name (Err other) = ⊤

-- a read of a store over a call fits what its file held before the call
abbrev pub IsOfFile : StoreOver → Read → Type 0
IsOfFile store read = Fits store.tells store.old.files read.name read.answer

-- A file that can't be read has a count that rose in this call, and from one that is too long more bytes than its limit
-- were taken. No step that only reads answers a fault of the disk.
abbrev pub IsCaused : StoreOver → Refusal → Type 0
IsCaused store (StoreFault file) = Rose (store.old.read_faults file) (store.new.read_faults file)
IsCaused store (TooLong file) = limit_of file < store.new.taken
IsCaused store Disk = ⊥
IsCaused store other = ⊤

-- refusals that need no cause, over whatever store and disk: no file failed, none is too long, nor did a disk fail
abbrev pub NeedsNoCause : Refusal → Type 0
NeedsNoCause (StoreFault file) = ⊥
NeedsNoCause (TooLong file) = ⊥
NeedsNoCause Disk = ⊥
NeedsNoCause other = ⊤

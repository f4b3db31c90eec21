-- A law on one call, over a store whose files aren't known, as that of the machine. Such a store shows every read and
-- write with its answer, and so what its files were, as far as the call has asked for them.
use Rattle.std.specs.Prelude.{◌≡◌, ℕ, List, true, if◌then◌else◌, Option, Some, Result, Ok, Err, All, ⊤}
use Rattle.std.specs.Str.{bytes_eq}
use Rattle.outside_io.specs.Calls.{Read, Asked}
use Rattle.outside_io.specs.Contents.{Contents, IsLongerThan}
use Rattle.outside_io.specs.declared.store.StoreError.{StoreError}
use Rattle.outside_io.specs.declared.store.StoreError.TheVariants as store_error
use Rattle.live_plant.specs.Actions.{Changes, with_asked}
use Rattle.live_plant.specs.Outside.{StoreOver, store_over, limit_of}
use Rattle.pull_cli.specs.Ends.{Ends}
use Rattle.pull_laws.specs.Resuming.{Call}

-- What a read answers of a file that holds this, or isn't there: its bytes, or that it is longer than it may be. A read
-- that failed, or found no memory, says nothing of the file.
abbrev pub IsAnswer : List ℕ → Option (List ℕ) → Result (List ℕ) StoreError → Type 0
IsAnswer name held (Ok bytes) = held ≡ Some bytes
IsAnswer name held (Err store_error.TooLong) = IsLongerThan (limit_of name) held
IsAnswer name held (Err other) = ⊤

-- so does a read of these files
abbrev pub IsReadOf : Contents → Read → Type 0
IsReadOf files read = IsAnswer read.name (files read.name) read.answer

-- all that a call asked of its store, and each of its reads is one of these files
pub record ReadsFrom (files : Contents) (store : StoreOver) : Type 0 where
  pub asks : Asked
  pub asked : store.new.asked ≡ with_asked store.old.asked asks
  pub answers : All (IsReadOf files) asks.reads

-- these files, and one of them with other bytes
abbrev pub with_file : Contents → List ℕ → List ℕ → Contents
with_file files name bytes q = if bytes_eq q name then Some bytes else files q

-- the same store, but its files are known, and they are these before the call and these after it
abbrev pub telling : Contents → Contents → StoreOver → StoreOver
telling before after store =
    store_over true (record store.old { files = before }) (record store.new { files = after })

-- the same call over such a store
abbrev pub over_files : Contents → Contents → Call → Call
over_files before after call = record call { store = telling before after call.store }

-- a call has ended as every call of `pull` does
abbrev pub HasEnded : Call → Type 0
HasEnded call = Ends call.words call.store call.sink call.disk call.status

-- However a call ends over any store, it ends so over any files from which its reads can have been answered, where its
-- writes change them into those after it.
abbrev pub EndsAsOverFiles : Type 0
EndsAsOverFiles =
    (call : Call) (before after : Contents) (reads : ReadsFrom before call.store) → HasEnded call →
    Changes (telling before after call.store) reads.asks.writes → HasEnded (over_files before after call)

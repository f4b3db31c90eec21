-- What a store and a sink in memory show, how they are made, and what they keep of a call that they refuse.
use Rattle.std.specs.Prelude.{◌≡◌, ℕ, ◌-◌, min, List, length, take, Option, None, String, Vec}
use Rattle.std.specs.BTreeMap.{BTreeMap}
use Rattle.std.specs.declared.alloc.Global.{Global}
use Rattle.outside_io.specs.FailPlans.{IsNewPlan}
use Rattle.outside_io.specs.Held.{contents, times_noted}
use Rattle.outside_io.specs.Left.{left_by}
use Rattle.outside_io.specs.SinkView.{SinkView, IsBlank}
use Rattle.outside_io.specs.StoreView.{StoreView, IsUnused}
use Rattle.outside_io.specs.Noted.{asked_of}
use Rattle.outside_io.specs.declared.fail_plan.FailPlan.{FailPlan}
use Rattle.outside_io.specs.declared.mem_sink.MemSink.{MemSink}
use Rattle.outside_io.specs.declared.mem_store.MemStore.{MemStore}

-- what a sink in memory shows
abbrev pub sink_view : MemSink → SinkView
sink_view sink = record { written = sink.bytes.items; faults = sink.faults }

-- which calls of a sink are to fail, and how many were made
abbrev pub sink_plan : MemSink → FailPlan
sink_plan sink = sink.plan

-- a sink as it is made: with this room, these calls are to fail, it keeps this much of a refused piece, and nothing was
-- written
pub record IsNewSink (sink : MemSink) (size : ℕ) (numbers : List ℕ) (kept : ℕ) : Type 0 where
  pub room : sink.room ≡ size
  pub keep : sink.keep ≡ kept
  pub plan : IsNewPlan sink.plan numbers
  pub blank : IsBlank (sink_view sink)

-- how many bytes still fit
abbrev pub room_left : MemSink → ℕ
room_left sink = sink.room - length sink.bytes.items

-- the prefix of a refused piece that is kept
abbrev pub kept_of : MemSink → List ℕ → List ℕ
kept_of sink piece = take (min sink.keep (room_left sink)) piece

-- the two sinks have the same room, and keep as much of a refused piece
pub record IsMadeAlike (old new : MemSink) : Type 0 where
  pub room : new.room ≡ old.room
  pub keep : new.keep ≡ old.keep

-- what a store in memory shows
abbrev pub store_view : MemStore → StoreView
store_view store = record {
  files = contents store.files;
  read_faults = times_noted store.failed_reads;
  write_faults = times_noted store.failed_writes;
  taken = store.taken;
  asked = asked_of store.calls;
}

-- which calls of a store are to fail, and how many were made
abbrev pub store_plan : MemStore → FailPlan
store_plan store = store.plan

-- the files of a store, by name
abbrev pub store_files : MemStore → BTreeMap (String Global) (Vec ℕ Global)
store_files store = store.files

-- the names of the reads that have failed, and of the writes
abbrev pub failed_reads : MemStore → Vec (String Global) Global
failed_reads store = store.failed_reads

abbrev pub failed_writes : MemStore → Vec (String Global) Global
failed_writes store = store.failed_writes

-- how many bytes a refused write keeps, or with none the file stays as it was
abbrev pub store_keep : MemStore → Option ℕ
store_keep store = store.keep

-- a store as it is made: of these files, these calls are to fail, a refused write keeps this much, and nothing was
-- asked yet
pub record IsNewStore (store : MemStore) (held : BTreeMap (String Global) (Vec ℕ Global)) (numbers : List ℕ)
    (kept : Option ℕ) : Type 0 where
  pub files : store.files ≡ held
  pub keep : store.keep ≡ kept
  pub plan : IsNewPlan store.plan numbers
  pub unused : IsUnused (store_view store)

-- there is no such file
abbrev pub IsAbsent : MemStore → List ℕ → Type 0
IsAbsent store name = contents store.files name ≡ None

-- what a file holds after a write of these bytes that was refused
abbrev pub left_of : MemStore → List ℕ → List ℕ → Option (List ℕ)
left_of store name bytes = left_by store.keep (contents store.files name) bytes

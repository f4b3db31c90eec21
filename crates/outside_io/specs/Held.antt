-- What a store in memory keeps, as a clause reads it.
use Rattle.std.specs.Prelude.{◌≡◌, ◌≢◌, ◌+◌, ℕ, List, Vec, String, Result, IsErrOf, option_map, count_by}
use Rattle.std.specs.Str.{bytes_eq}
use Rattle.std.specs.String.{string_bytes}
use Rattle.std.specs.BTreeMap.{BTreeMap, get_by_text}
use Rattle.std.specs.declared.alloc.Global.{Global}
use Rattle.outside_io.specs.Contents.{Contents}
use Rattle.outside_io.specs.Faults.{Rose, NeverFall, RiseByOneAtMost, SameFaults}
use Rattle.outside_io.specs.declared.store.StoreError.{StoreError}
use Rattle.outside_io.specs.declared.store.StoreError.TheVariants as store_error

-- the bytes under each name
abbrev pub contents : BTreeMap (String Global) (Vec ℕ Global) → Contents
contents files name = option_map (λ v. v.items) (get_by_text files name)

-- how often a name was noted
abbrev pub times_noted : Vec (String Global) Global → List ℕ → ℕ
times_noted noted name = count_by (λ other. bytes_eq name (string_bytes other)) noted.items

-- the name was noted once more, and no other was
pub record NotesOnce (old new : Vec (String Global) Global) (name : List ℕ) : Type 0 where
  pub named : times_noted new name ≡ times_noted old name + 1
  pub others : (q : List ℕ) → q ≢ name → times_noted new q ≡ times_noted old q

-- A call of this name failed, and was noted once; or there was no memory, and none was noted.
pub record CountsFault {T : Type 0} (old new : Vec (String Global) Global) (name : List ℕ)
    (result : Result T StoreError) : Type 0 where
  pub cause : IsErrOf result store_error.Failed → Rose (times_noted old name) (times_noted new name)
  pub stays_or_rises : NeverFall (times_noted old) (times_noted new)
  pub rises_by_one : RiseByOneAtMost (times_noted old) (times_noted new)
  pub memory_is_no_fault : IsErrOf result store_error.NoMemory → SameFaults (times_noted old) (times_noted new)

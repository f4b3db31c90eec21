-- What a write of a file asks and changes, and whether it counts a fault, for functions of this crate.
use Rattle.std.specs.Prelude.{◌≡◌, ◌≤◌, ◌+◌, ℕ, List, Bool, false, Some, Result, is_ok, OnOk, OnErr, IsErrOf, IsTrue}
use Rattle.outside_io.specs.Contents.{OthersStay, IsTorn}
use Rattle.outside_io.specs.Faults.{Rose}
use Rattle.outside_io.specs.RawFiles.{FilesView, Asks, AsksToWrite, SameNamed, empties, named_files, spare_of}
use Rattle.outside_io.specs.declared.store.StoreError.{StoreError}
use Rattle.outside_io.specs.declared.store.StoreError.TheVariants as store_error

-- A file was written, and the count of faults was `before` and is `now`: it holds the bytes, or the machine refused,
-- which is a fault that is counted once, or there was no memory, and nothing was asked.
pub record WritesCounted (tells : Bool) (old new : FilesView) (name bytes : List ℕ) (before now : ℕ)
    (result : Result (Unit {0}) StoreError) : Type 0 where
  pub asks : ¬ (IsErrOf result store_error.NoMemory) → Asks old new (λ calls.
      AsksToWrite (spare_of name) name bytes calls (is_ok result)
      × (empties calls ≡ false → OnErr result (SameNamed tells old new)))
  pub untouched : IsErrOf result store_error.NoMemory → new ≡ old
  pub written : OnOk result (IsTrue tells → named_files new name ≡ Some bytes)
  pub others_stay : OthersStay tells (named_files old) (named_files new) name
  pub torn : IsTrue tells → IsTorn (named_files old name) (named_files new name) bytes
  pub never_too_long : ¬ (IsErrOf result store_error.TooLong)
  pub cause : IsErrOf result store_error.Failed → Rose before now
  pub faults_stay : OnOk result (now ≡ before)
  pub stays_or_rises : before ≤ now
  pub once : now ≤ before + 1
  pub memory_is_no_fault : IsErrOf result store_error.NoMemory → now ≡ before

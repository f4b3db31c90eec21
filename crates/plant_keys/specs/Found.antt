-- What a walk over a plant file has found: as many of the faults as are asked for, and how many there are.
use Rattle.std.specs.Prelude.{◌≡◌, ℕ, Bool, false, List, ◌++◌, length, take}
use Rattle.plant_keys.specs.declared.fault.Fault.{Fault}
use Rattle.plant_keys.specs.declared.faults.Asked.{Asked}
use Rattle.plant_keys.specs.declared.faults.Asked.TheVariants.{First, All}
use Rattle.plant_keys.specs.declared.faults.FaultList.{FaultList}

-- the most faults that are kept where all are asked for
abbrev pub most_faults : ℕ
most_faults = 200

-- the most faults that are kept
abbrev pub most_kept : Asked → ℕ
most_kept First = 1
most_kept All = most_faults

-- what is found so far
pub record Found : Type 0 where
  pub asked : Asked
  pub kept : List Fault
  pub count : ℕ
  pub is_out : Bool

-- All that is wrong so far are these faults: as many of the first are kept as are asked for, and where all are they are
-- counted; unless memory ran out.
pub record HasFound (asked : Asked) (f : Found) (faults : List Fault) : Type 0 where
  pub asks : f.is_out ≡ false → f.asked ≡ asked
  pub kept : f.is_out ≡ false → f.kept ≡ take (most_kept asked) faults
  pub counted : f.is_out ≡ false → asked ≡ All → f.count ≡ length faults

-- these faults are found after all before
pub record Finds (old new : Found) (faults : List Fault) : Type 0 where
  pub more : (asked : Asked) (before : List Fault) → HasFound asked old before → HasFound asked new (before ++ faults)

-- the list of these faults: the first 200 of them, and how many there are
pub record AreFaults (list : FaultList) (faults : List Fault) : Type 0 where
  pub kept : list.kept ≡ take most_faults faults
  pub count : list.count ≡ length faults

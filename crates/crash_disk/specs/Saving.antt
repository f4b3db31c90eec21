-- What a save does to a disk, for functions of this crate.
use Rattle.std.specs.Prelude.{◌≤◌, ℕ, List, Bool, IsTrue, Result, OnOk, IsErrOf}
use Rattle.crash_disk.specs.DiskView.{DiskView, LeavesOnly, held_now}
use Rattle.crash_disk.specs.declared.disk.DiskError.{DiskError}
use Rattle.crash_disk.specs.declared.disk.DiskError.TheVariants.{Failed}
use Rattle.crash_disk.specs.Crash.{KeepsContent, IsOldOrNew, IsSaved}
use Rattle.crash_disk.specs.SaveCalls.{Asks, AsksToSave}
use Rattle.crash_disk.specs.Within.{OutsideStays}
use Rattle.outside_io.specs.Faults.{Rose}

-- a part of a save that does no harm: at any moment a crash leaves the content as it was, and each byte behind both
-- slots is as it was
pub record IsHarmless (tells : Bool) (room : ℕ) (old new : DiskView) : Type 0 where
  pub any_moment : KeepsContent tells old new room
  pub outside_stays : OutsideStays tells room old new

-- Bytes were saved, or not: a crash at any moment leaves what it might have left before, or these bytes, and after a
-- success these bytes; each byte behind both slots is as it was; a call that failed is a fault; and the calls are those
-- of a save.
pub record SavesContent (tells : Bool) (room : ℕ) (bytes : List ℕ) (old new : DiskView)
    (result : Result (Unit {0}) DiskError) : Type 0 where
  pub any_moment : IsTrue tells → LeavesOnly old new (IsOldOrNew (held_now old) room bytes)
  pub saved : OnOk result (IsTrue tells → IsSaved (held_now new) room bytes)
  pub outside_stays : OutsideStays tells room old new
  pub cause : IsErrOf result Failed → Rose old.faults new.faults
  pub faults_stay_or_rise : old.faults ≤ new.faults
  pub asks : Asks old new (λ calls. AsksToSave room bytes calls result)

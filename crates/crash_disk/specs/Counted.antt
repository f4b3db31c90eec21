-- How a call of a disk counts a fault, for functions of this crate.
use Rattle.std.specs.Prelude.{◌≡◌, ◌≤◌, ℕ, Result, OnOk, IsErrOf}
use Rattle.outside_io.specs.Faults.{Rose, RoseByOne}
use Rattle.crash_disk.specs.declared.disk.DiskError.{DiskError}
use Rattle.crash_disk.specs.declared.disk.DiskError.TheVariants as disk_error

-- The count of faults was `before` and is `now`: a call that failed is a fault that is counted once, and no other
-- call is one.
pub record CountsFault {T : Type 0} (before now : ℕ) (result : Result T DiskError) : Type 0 where
  pub cause : IsErrOf result disk_error.Failed → Rose before now
  pub once : IsErrOf result disk_error.Failed → RoseByOne before now
  pub memory_is_no_fault : IsErrOf result disk_error.NoMemory → now ≡ before
  pub faults_stay : OnOk result (now ≡ before)
  pub stays_or_rises : before ≤ now

-- How many bytes a read of a file takes, and whether it counts a fault, for functions of this crate.
use Rattle.std.specs.Prelude.{◌≡◌, ◌<◌, ◌≤◌, ◌+◌, ◌↔◌, ℕ, length, Vec, Result, IfOk, OnOk, IsErrOf}
use Rattle.std.specs.declared.alloc.Global.{Global}
use Rattle.outside_io.specs.Faults.{Rose}
use Rattle.outside_io.specs.declared.store.StoreError.{StoreError}
use Rattle.outside_io.specs.declared.store.StoreError.TheVariants as store_error

-- A read took this many bytes, and the count of faults was `before` and is `now`: all that it took are the answer, or
-- it took one more than the limit, or it was refused, which is a fault that is counted once, or there was no memory.
pub record TakesToLimit (limit taken before now : ℕ) (result : Result (Vec ℕ Global) StoreError) : Type 0 where
  pub within_limit : IfOk result (λ v. length v.items ≤ limit)
  pub took_them : IfOk result (λ v. taken ≡ length v.items)
  pub too_long : IsErrOf result store_error.TooLong ↔ (limit < taken)
  pub one_more_at_most : taken ≤ limit + 1
  pub cause : IsErrOf result store_error.Failed → Rose before now
  pub faults_stay : OnOk result (now ≡ before)
  pub once : now ≤ before + 1
  pub memory_is_no_fault : IsErrOf result store_error.NoMemory → now ≡ before
  pub faults_stay_or_rise : before ≤ now

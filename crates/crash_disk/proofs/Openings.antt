-- What the machine answers where a file is to be opened.
use Rattle.std.proofs.Common.{◌≡◌, ◌≢◌, ◌⊎◌, inl, inr}
use Rattle.crash_disk.specs.declared.opening.Opening.{Opening}
use Rattle.crash_disk.specs.declared.opening.Opening.TheVariants.{Opened, Absent, Refused}

-- one that is not there, or was refused, isn't open
pub not_opened : (answer : Opening) → (answer ≡ Absent) ⊎ (answer ≡ Refused) → answer ≢ Opened
not_opened Opened (inl is) = cc
not_opened Opened (inr is) = cc
not_opened Absent is = λ same. cc
not_opened Refused is = λ same. cc

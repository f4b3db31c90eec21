-- Calls of a disk that write within one range of addresses alone, and what a crash leaves of the rest.
use Rattle.std.specs.Prelude.{◌≡◌, ℕ, ◌+◌, ◌*◌, ◌≤◌, Bool, IsTrue, false}
use Rattle.crash_disk.specs.DiskView.{Image, Held, DiskView, LeavesOnly, held_now, is_within}
use Rattle.crash_disk.specs.Crash.{bytes_now}

-- outside of n addresses the disk holds these bytes, and nothing is pending
pub record IsNear (at n : ℕ) (base : Image) (held : Held) : Type 0 where
  pub bytes : (i : ℕ) → is_within at n i ≡ false → held.bytes i ≡ base i
  pub settled : (i : ℕ) → is_within at n i ≡ false → held.pending i ≡ false

-- outside of n addresses an image has these bytes
pub record IsSameBut (at n : ℕ) (base image : Image) : Type 0 where
  pub bytes : (i : ℕ) → is_within at n i ≡ false → image i ≡ base i

-- from a disk on which nothing was pending, by writes within n addresses
pub record WritesWithin (at n : ℕ) (start now : DiskView) : Type 0 where
  pub leaves : LeavesOnly start now (IsSameBut at n (bytes_now start))
  pub near : IsNear at n (bytes_now start) (held_now now)

-- where the disk is known, each byte behind both slots is as it was
abbrev pub OutsideStays : Bool → (room : ℕ) → DiskView → DiskView → Type 0
OutsideStays tells room old new =
    IsTrue tells → (i : ℕ) → 2 * (16 + room) ≤ i → bytes_now new i ≡ bytes_now old i

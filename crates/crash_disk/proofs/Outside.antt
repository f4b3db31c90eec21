-- What stays behind both slots.
use Rattle.std.proofs.Common.{◌≡◌, ℕ, ◌+◌, ◌*◌, ◌≤◌, ◌∙◌, ap, arith, Result, Ok, Err, OnOk, OnErr}
use Rattle.std.specs.Prelude.{Bool, IsTrue}
use Rattle.crash_disk.specs.DiskView.{Held, DiskView, synced_file}
use Rattle.crash_disk.specs.declared.disk.DiskError.{DiskError}
use Rattle.crash_disk.specs.Layout.{start_of}
use Rattle.crash_disk.specs.declared.slots.head.Slot.{Slot}
use Rattle.crash_disk.specs.declared.slots.head.Slot.TheVariants.{Zero, One}
use Rattle.crash_disk.specs.Within.{WritesWithin, OutsideStays}
use Rattle.crash_disk.proofs.Near.{out_behind}

-- no slot begins behind the first
pub start_low : (room : ℕ) (slot : Slot) → start_of room slot ≤ 16 + room
start_low room Zero = omega arith
start_low room One = omega arith

-- writes within the slots
pub outside_within : (tells : Bool) (room at n : ℕ) (old new : DiskView) → (IsTrue tells → WritesWithin at n old new) → at + n ≤ 2 * (16 + room) → OutsideStays tells room old new
outside_within tells room at n old new went ends =
    λ known i behind. (went known).near.bytes i (out_behind at n i (omega arith))

-- a sync
pub synced_bytes : (r : Result (Unit {0}) DiskError) (tells : Bool) (old new : Held) → OnOk r (IsTrue tells → new ≡ synced_file old) → OnErr r (IsTrue tells → new ≡ old) → IsTrue tells → (i : ℕ) → new.bytes i ≡ old.bytes i
synced_bytes (Ok x) tells old new done stays known i = ap (λ (h : Held). h.bytes i) (done known)
synced_bytes (Err e) tells old new done stays known i = ap (λ (h : Held). h.bytes i) (stays known)

-- one call behind another
pub outside_on : (tells : Bool) (room : ℕ) (old mid new : DiskView) → OutsideStays tells room old mid → OutsideStays tells room mid new → OutsideStays tells room old new
outside_on tells room old mid new first second = λ known i behind. second known i behind ∙ first known i behind

-- A disk in memory, as a clause reads it.
use Rattle.std.specs.Prelude.{◌≡◌, ℕ, ◌+◌, Bool, List, [], ◌∷◌, ◌++◌, length, take, drop, Contains}
use Rattle.crash_disk.specs.DiskView.{Image, Held, DiskView}
use Rattle.crash_disk.specs.Memory.{image_from, held_after, first_held, left_by, settled_count, in_effect}
use Rattle.crash_disk.specs.Asked.{asked_of}
use Rattle.crash_disk.specs.declared.patch.Patch.{Patch}
use Rattle.crash_disk.specs.declared.patch.DiskCall.{DiskCall}
use Rattle.crash_disk.specs.declared.patch.DiskCall.TheVariants as call
use Rattle.crash_disk.specs.declared.mem_disk.MemDisk.{MemDisk}

-- what a disk in memory shows: a moment for each call
abbrev pub mem_view : MemDisk → DiskView
mem_view disk = record {
  moment = length disk.calls.items;
  held = λ k. held_after (first_held disk.first.items) (take k disk.calls.items);
  faults = disk.faults;
  asked = asked_of disk.asked;
}

-- the next call is on the list of those that fail
abbrev pub IsDue : MemDisk → Type 0
IsDue disk = Contains disk.failing.items (length disk.calls.items + 1)

-- one more call was counted, behind those before: this one
abbrev pub Counts : MemDisk → MemDisk → DiskCall → Type 0
Counts old new call = new.calls.items ≡ old.calls.items ++ call ∷ []

-- one more call was counted: a write of these bytes from that address on, done or not
pub record CountsWrite (old new : MemDisk) (start : ℕ) (given : List ℕ) (done : Bool) : Type 0 where
  pub patch : Patch
  pub at : patch.at ≡ start
  pub bytes : patch.bytes.items ≡ given
  pub counted : Counts old new (call.Write patch done)

-- no call was counted
abbrev pub CountsNone : MemDisk → MemDisk → Type 0
CountsNone old new = new.calls.items ≡ old.calls.items

-- the calls that have had their effect during the call of this number, or before the first where it is 0
abbrev pub calls_during : MemDisk → ℕ → List DiskCall
calls_during disk call =
    let made = take call disk.calls.items in
    take (in_effect made) made

-- what the disk holds during that call
abbrev pub held_during : MemDisk → ℕ → Held
held_during disk call = held_after (first_held disk.first.items) (calls_during disk call)

-- the image that a crash during that call leaves by this pick
abbrev pub crash_image : MemDisk → ℕ → ℕ → Image
crash_image disk call pick =
    let made = calls_during disk call in
    let settled = settled_count made in
    image_from (held_after (first_held disk.first.items) (take settled made)).bytes
    (left_by pick (drop settled made))

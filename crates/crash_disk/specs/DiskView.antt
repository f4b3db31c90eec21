-- What a disk shows to contracts, and what a crash may leave of it, for callers of `Disk`.
use Rattle.std.specs.Prelude.{◌≡◌, ◌⊎◌, ℕ, zero, suc, ◌+◌, ◌-◌, ◌≤◌, nat_le, nat_lt, List, [], ◌∷◌, length, slice_index, Bool, true, false, Vec, Result, Ok, Err, ◌&&◌, ◌||◌, if◌then◌else◌}
use Rattle.std.specs.declared.alloc.Global.{Global}
use Rattle.crash_disk.specs.declared.disk.DiskError.{DiskError}

-- the byte at each address
abbrev pub Image : Type 0
Image = ℕ → ℕ

-- What a disk holds: what a read gives at each address, and which addresses were written since the last sync that
-- succeeded.
pub record Held : Type 0 where
  pub bytes : Image
  pub pending : ℕ → Bool

-- A crash may leave any byte where a write is pending, and what a read gives everywhere else.
pub record MayLeave (held : Held) (image : Image) : Type 0 where
  pub elsewhere : (i : ℕ) → held.pending i ≡ false → image i ≡ held.bytes i

-- a new disk: zeros, and nothing is pending
abbrev pub blank : Held
blank = record { bytes = λ _. 0; pending = λ _. false }

-- the address is one of n from that one on
abbrev pub is_within : ℕ → ℕ → ℕ → Bool
is_within at n i = nat_le at i && nat_lt i (at + n)

-- these bytes from an address on, and the rest as before
abbrev pub patched_image : Image → ℕ → List ℕ → Image
patched_image image at bytes i = if is_within at (length bytes) i then slice_index bytes (i - at)
    else image i

-- the addresses of a write wait for a sync, with those that waited before
abbrev pub awaiting : (ℕ → Bool) → ℕ → ℕ → ℕ → Bool
awaiting pending at n i = pending i || is_within at n i

-- what a disk holds after a write
abbrev pub after_write : Held → ℕ → List ℕ → Held
after_write held at bytes = record {
  bytes = patched_image held.bytes at bytes;
  pending = awaiting held.pending at (length bytes);
}

-- an address is as it was
pub record IsAsBefore (old new : Held) (i : ℕ) : Type 0 where
  pub byte : new.bytes i ≡ old.bytes i
  pub pending : new.pending i ≡ old.pending i

-- an address is one of n from that one on, and a write is pending there
pub record IsPendingWithin (new : Held) (at n i : ℕ) : Type 0 where
  pub within : is_within at n i ≡ true
  pub pending : new.pending i ≡ true

-- After a write of n bytes that failed: each address is as before, or it is one of the n and a write is pending there.
pub record Torn (old new : Held) (at n : ℕ) : Type 0 where
  pub each : (i : ℕ) → IsAsBefore old new i ⊎ IsPendingWithin new at n i

-- after a sync that succeeded a crash leaves what a read gives
abbrev pub synced_file : Held → Held
synced_file held = record { bytes = held.bytes; pending = λ _. false }

-- as many bytes as are asked for, from an address on
unfoldable pub bytes_at : Image → ℕ → ℕ → List ℕ
bytes_at image at zero = []
bytes_at image at (suc n) = image at ∷ bytes_at image (suc at) n

-- One call, with its answer. Bytes are read: their address, how many, and those that were answered, or why none were.
-- Bytes are written from an address on, and what was written is synced: whether it was done, or why not.
pub data DiskAsk : Type 0 where
  Read : (at len : ℕ) → (answer : Result (List ℕ) DiskError) → DiskAsk
  Write : (at : ℕ) → (bytes : List ℕ) → (answer : Result (Unit {0}) DiskError) → DiskAsk
  Sync : (answer : Result (Unit {0}) DiskError) → DiskAsk

abbrev pub bytes_of : Result (Vec ℕ Global) DiskError → Result (List ℕ) DiskError
bytes_of (Ok v) = Ok v.items
bytes_of (Err error) = Err error

-- a call by what was given to it and what it answered
abbrev pub disk_read : ℕ → ℕ → Result (Vec ℕ Global) DiskError → DiskAsk
disk_read at len answer = Read at len (bytes_of answer)

abbrev pub disk_write : ℕ → List ℕ → Result (Unit {0}) DiskError → DiskAsk
disk_write at bytes answer = Write at bytes answer

abbrev pub disk_sync : Result (Unit {0}) DiskError → DiskAsk
disk_sync answer = Sync answer

-- What a disk shows: the moment, as a number that never falls, what it holds at that and at each earlier moment, how
-- often a call has failed, and every call with its answer, the oldest first.
pub record DiskView : Type 0 where
  pub moment : ℕ
  pub held : ℕ → Held
  pub faults : ℕ
  pub asked : List DiskAsk

-- what it holds now
abbrev pub held_now : DiskView → Held
held_now disk = disk.held disk.moment

-- A call moves the clock on, or leaves it. What the disk held at the moments before stays the same. A crash during the
-- call leaves what it may leave at the moment before the call or at the one after it.
pub record Passes (old new : DiskView) : Type 0 where
  pub later : old.moment ≤ new.moment
  pub past : (k : ℕ) → k ≤ old.moment → new.held k ≡ old.held k
  pub during : (k : ℕ) → old.moment ≤ k → k ≤ new.moment → (image : Image) → MayLeave (new.held k) image
      → MayLeave (held_now old) image ⊎ MayLeave (held_now new) image

-- a crash at the moment t or at a later one might have left this image
pub record LeftSince (disk : DiskView) (t : ℕ) (image : Image) : Type 0 where
  pub at : ℕ
  pub since : t ≤ at
  pub until : at ≤ disk.moment
  pub left : MayLeave (disk.held at) image

-- Between the two, a crash at any moment leaves an image that has P. It says so of the moments of both too.
pub record LeavesOnly (old new : DiskView) (P : Image → Type 0) : Type 0 where
  pub later : old.moment ≤ new.moment
  pub past : (k : ℕ) → k ≤ old.moment → new.held k ≡ old.held k
  pub each : (image : Image) → LeftSince new old.moment image → P image

-- Nothing changed, and a crash at any moment left what it might have left at first.
pub record Stays (old new : DiskView) : Type 0 where
  pub held : held_now new ≡ held_now old
  pub leaves : LeavesOnly old new (MayLeave (held_now old))

-- What a crash leaves of the content of a disk, while bytes are saved to it.
use Rattle.std.specs.Prelude.{◌≡◌, ◌≢◌, ◌⊎◌, ℕ, ◌+◌, ◌==◌, List, length, Bool, IsTrue, false, Option, Some, None}
use Rattle.crash_disk.specs.DiskView.{Image, Held, MayLeave, LeavesOnly, DiskView, held_now}
use Rattle.crash_disk.specs.Layout.{Saved, start_of, head_at, content_from, saved_in, next, bytes_of, content}
use Rattle.crash_disk.specs.declared.slots.head.Slot.{Slot}
use Rattle.crash_disk.specs.declared.slots.head.Slot.TheVariants.{Zero, One}
use Rattle.crash_disk.specs.declared.slots.target.Target.{Target}

-- a crash may leave an image of this content, or, at nothing, one in which no slot is open
abbrev pub CouldLeave : Held → ℕ → Option (List ℕ) → Type 0
CouldLeave held room saved = (image : Image) × MayLeave held image × (content image room ≡ saved)

-- the content is one that a crash could have left before, or these bytes
abbrev pub IsOldOrNew : Held → ℕ → List ℕ → Image → Type 0
IsOldOrNew before room bytes image =
    CouldLeave before room (content image room) ⊎ (content image room ≡ Some bytes)

-- the content is as it was
abbrev pub SameContent : Image → ℕ → Image → Type 0
SameContent before room image = content image room ≡ content before room

-- nothing waits for a sync
pub record IsSettled (held : Held) : Type 0 where
  pub stands : (i : ℕ) → held.pending i ≡ false

-- the slot beside this one
abbrev pub other : Slot → Slot
other Zero = One
other One = Zero

-- the number that comes after that of a slot, or 0 after none
abbrev pub number_after : Option Saved → ℕ
number_after None = 0
number_after (Some saved) = next saved.number

-- the slot beside the target holds what is saved, and the target's new number comes after the number there
pub record IsTarget (image : Image) (room : ℕ) (target : Target) : Type 0 where
  pub kept : content image room ≡ bytes_of (saved_in image room (other target.slot))
  pub number_is : target.number ≡ number_after (saved_in image room (other target.slot))

-- whether the target's gate is open is as it was read
abbrev pub TellsGate : Image → ℕ → Target → Type 0
TellsGate image room target = target.gate_is_open ≡ (image (start_of room target.slot) == 1)

-- the target's gate is not open
abbrev pub IsClosed : Image → ℕ → Target → Type 0
IsClosed image room target = image (start_of room target.slot) ≢ 1

-- behind its closed gate the target has the new number, and these bytes with their length
pub record IsStaged (image : Image) (room : ℕ) (target : Target) (bytes : List ℕ) : Type 0 where
  pub number_is : image (start_of room target.slot + 1) ≡ target.number
  pub length_is : (head_at image (start_of room target.slot)).length ≡ length bytes
  pub content_is : content_from image (start_of room target.slot) ≡ bytes

-- what a read gives now
abbrev pub bytes_now : DiskView → Image
bytes_now disk = (held_now disk).bytes

-- nothing waits for a sync, and the target is one to write to
pub record IsReady (disk : DiskView) (room : ℕ) (target : Target) : Type 0 where
  pub settled : IsSettled (held_now disk)
  pub target_is : IsTarget (bytes_now disk) room target

-- at any moment until now a crash leaves the content as it was
abbrev pub KeepsContent : Bool → DiskView → DiskView → ℕ → Type 0
KeepsContent tells old new room = IsTrue tells → LeavesOnly old new (SameContent (bytes_now old) room)

-- the bytes that an open gate of the target would make the content
abbrev pub staged_in : Image → ℕ → Target → List ℕ
staged_in image room target = content_from image (start_of room target.slot)

-- whatever a crash leaves has these bytes as its content
abbrev pub IsSaved : Held → ℕ → List ℕ → Type 0
IsSaved held room bytes = (image : Image) → MayLeave held image → content image room ≡ Some bytes

-- the content is as it was, or these bytes
abbrev pub IsKeptOrNew : Image → ℕ → List ℕ → Image → Type 0
IsKeptOrNew before room bytes image = SameContent before room image
    ⊎ (content image room ≡ Some bytes)

-- The two slots of a disk: where they lie, when one is open, and which one is the newer.
use Rattle.std.specs.Prelude.{ℕ, ◌+◌, ◌%◌, ◌==◌, nat_le, List, drop, slice_index, Bool, true, false, ◌&&◌, if◌then◌else◌, Option, Some, None, option_map}
use Rattle.std.specs.Int.{w64, from_be_bytes}
use Rattle.crash_disk.specs.DiskView.{Image, bytes_at}
use Rattle.crash_disk.specs.declared.slots.head.Head.{Head}
use Rattle.crash_disk.specs.declared.slots.head.Slot.{Slot}
use Rattle.crash_disk.specs.declared.slots.head.Slot.TheVariants.{Zero, One}
use Rattle.crash_disk.specs.declared.slots.target.Target.{Target}

-- the address at which a slot begins, where each has that much room for its content
abbrev pub start_of : ℕ → Slot → ℕ
start_of room Zero = 0
start_of room One = 16 + room

-- The head of a slot: its gate, its number, and the length of its content in eight bytes, the most significant first.
abbrev pub head_at : Image → ℕ → Head
head_at image start = record {
  gate = image start;
  number = image (start + 1);
  length = from_be_bytes w64 (bytes_at image (start + 2) 8);
}

-- the same of the bytes that were read from there
abbrev pub head_of_bytes : List ℕ → Head
head_of_bytes bytes = record {
  gate = slice_index bytes 0;
  number = slice_index bytes 1;
  length = from_be_bytes w64 (drop 2 bytes);
}

-- a slot is open where its gate is 1, its number is at most 2, and its content has room
abbrev pub is_open : ℕ → Head → Bool
is_open room head = head.gate == 1 && nat_le head.number 2 && nat_le head.length room

-- what a slot holds that is open
pub record Saved : Type 0 where
  pub number : ℕ
  pub content : List ℕ

-- the content of a slot that begins there, whether it is open or not
abbrev pub content_from : Image → ℕ → List ℕ
content_from image start = bytes_at image (start + 16) (head_at image start).length

-- what a slot holds, or nothing where it is closed
abbrev pub saved_in : Image → ℕ → Slot → Option Saved
saved_in image room slot =
    let start = start_of room slot in
    if is_open room (head_at image start)
    then Some (record { number = image (start + 1); content = content_from image start })
    else None

-- the number after this one, of 0, 1 and 2 in turn
abbrev pub next : ℕ → ℕ
next number = (number + 1) % 3

-- Of two slots the newer one that is open: slot 1 where its number comes after that of slot 0, else slot 0.
abbrev pub newer : Option Saved → Option Saved → Option Saved
newer None one = one
newer (Some zero) None = Some zero
newer (Some zero) (Some one) = if one.number == next zero.number then Some one else Some zero

-- the bytes of what is saved, if anything is
abbrev pub bytes_of : Option Saved → Option (List ℕ)
bytes_of saved = option_map (λ s. s.content) saved

-- the content of a disk that holds these bytes: that of its newer open slot, or nothing where no slot is open
abbrev pub content : Image → ℕ → Option (List ℕ)
content image room = bytes_of (newer (saved_in image room Zero) (saved_in image room One))

-- The newer of two slots that are open, with its head: the same by heads alone.
abbrev pub newer_by : Bool → Bool → Bool → Head → Head → Option (Slot × Head)
newer_by false false after zero one = None
newer_by false true after zero one = Some (One, one)
newer_by true false after zero one = Some (Zero, zero)
newer_by true true after zero one = if after then Some (One, one) else Some (Zero, zero)

abbrev pub newer_head : ℕ → Head → Head → Option (Slot × Head)
newer_head room zero one =
    newer_by (is_open room zero) (is_open room one) (one.number == next zero.number) zero one

-- the slot that a save writes to, with its new number, by what the newer one is
abbrev pub target_by : Option (Slot × Head) → Head → Head → Target
target_by None zero one = record { slot = Zero; number = 0; gate_is_open = zero.gate == 1 }
target_by (Some (Zero, head)) zero one =
    record { slot = One; number = next head.number; gate_is_open = one.gate == 1 }
target_by (Some (One, head)) zero one =
    record { slot = Zero; number = next head.number; gate_is_open = zero.gate == 1 }

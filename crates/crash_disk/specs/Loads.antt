-- What a load reads of a disk, in order, and what it finds by the answers, whether or not it is known what the disk
-- holds.
use Rattle.std.specs.Prelude.{◌≡◌, ℕ, ◌+◌, List, [], ◌∷◌, ◌++◌, Option, Some, None, Vec, Result, Ok, Err}
use Rattle.std.specs.declared.alloc.Global.{Global}
use Rattle.crash_disk.specs.DiskView.{DiskAsk, DiskView, Read}
use Rattle.crash_disk.specs.declared.disk.DiskError.{DiskError}
use Rattle.crash_disk.specs.Errors.{error_of}
use Rattle.crash_disk.specs.Layout.{start_of, head_of_bytes, newer_head}
use Rattle.crash_disk.specs.declared.slots.error.SlotError.{SlotError}
use Rattle.crash_disk.specs.declared.slots.error.SlotError.TheVariants.{NoneSaved}
use Rattle.crash_disk.specs.declared.slots.head.Head.{Head}
use Rattle.crash_disk.specs.declared.slots.head.Slot.{Slot}
use Rattle.crash_disk.specs.declared.slots.head.Slot.TheVariants.{Zero, One}

-- the read of a head that begins there, and of the content of a slot with this head, with what was answered
abbrev pub head_read : ℕ → Result (List ℕ) DiskError → DiskAsk
head_read start answer = Read start 10 answer

abbrev pub content_read : ℕ → Head → Result (List ℕ) DiskError → DiskAsk
content_read start head answer = Read (start + 16) head.length answer

-- what the bytes of a head say, or why there are none
abbrev pub head_of : Result (List ℕ) DiskError → Result Head DiskError
head_of (Ok bytes) = Ok (head_of_bytes bytes)
head_of (Err error) = Err error

-- over a call a disk has read the head that begins there, and this is what it says
pub record ReadsHead (start : ℕ) (old new : DiskView) (answer : Result Head DiskError) : Type 0 where
  pub given : Result (List ℕ) DiskError
  pub read : new.asked ≡ old.asked ++ head_read start given ∷ []
  pub says : answer ≡ head_of given

-- The reads of the heads of both slots, and what they say: that of slot 0 first, and where it failed, no other.
pub data Heads (room : ℕ) (reads : List DiskAsk) (answer : Result (Head × Head) DiskError) : Type 0 where
  zero_failed : (error : DiskError) → reads ≡ head_read (start_of room Zero) (Err error) ∷ [] → answer ≡ Err error
      → Heads room reads answer
  one_failed : (zero : List ℕ) (error : DiskError)
      → reads ≡ head_read (start_of room Zero) (Ok zero) ∷ head_read (start_of room One) (Err error) ∷ []
      → answer ≡ Err error → Heads room reads answer
  both_read : (zero one : List ℕ)
      → reads ≡ head_read (start_of room Zero) (Ok zero) ∷ head_read (start_of room One) (Ok one) ∷ []
      → answer ≡ Ok (head_of_bytes zero, head_of_bytes one) → Heads room reads answer

-- what is answered to the bytes of a content, or to why there are none
abbrev pub content_of : Result (List ℕ) DiskError → Result (List ℕ) SlotError
content_of (Ok bytes) = Ok bytes
content_of (Err error) = Err (error_of error)

-- The reads of a load and its answer: the heads of both slots, and by them the content of the newer one that is open. A
-- read that failed is the last one.
pub data Loads (room : ℕ) (reads : List DiskAsk) (answer : Result (List ℕ) SlotError) : Type 0 where
  heads_failed : (error : DiskError) → Heads room reads (Err error) → answer ≡ Err (error_of error)
      → Loads room reads answer
  none_open : (zero one : Head) → Heads room reads (Ok (zero, one)) → newer_head room zero one ≡ None
      → answer ≡ Err NoneSaved → Loads room reads answer
  one_open : (zero one : Head) (heads : List DiskAsk) (slot : Slot) (head : Head)
      (given : Result (List ℕ) DiskError) → Heads room heads (Ok (zero, one))
      → newer_head room zero one ≡ Some (slot, head)
      → reads ≡ heads ++ content_read (start_of room slot) head given ∷ [] → answer ≡ content_of given
      → Loads room reads answer

-- over a call a disk has read the heads of both slots, and this is what they say
pub record ReadsHeads (room : ℕ) (old new : DiskView) (answer : Result (Head × Head) DiskError) : Type 0 where
  pub reads : List DiskAsk
  pub read : new.asked ≡ old.asked ++ reads
  pub heads : Heads room reads answer

-- over a call a disk has made the reads of a load that answered so
pub record HasLoaded (room : ℕ) (old new : DiskView) (answer : Result (List ℕ) SlotError) : Type 0 where
  pub reads : List DiskAsk
  pub read : new.asked ≡ old.asked ++ reads
  pub loads : Loads room reads answer

-- the bytes that a load answered, or why there are none
abbrev pub items_of : Result (Vec ℕ Global) SlotError → Result (List ℕ) SlotError
items_of (Ok v) = Ok v.items
items_of (Err error) = Err error

-- what a load answers that found this, or that no slot is open
abbrev pub answer_finding : Option (List ℕ) → Result (List ℕ) SlotError
answer_finding (Some bytes) = Ok bytes
answer_finding None = Err NoneSaved

-- What a save asks of a disk, in order, and what it answers to the answers, whether or not it is known what the disk
-- holds.
use Rattle.std.specs.Int.{w64, to_be_bytes}
use Rattle.std.specs.Prelude.{◌≡◌, ℕ, ◌+◌, List, [], ◌∷◌, ◌++◌, length, Bool, true, false, Result, Ok, Err}
use Rattle.crash_disk.specs.DiskView.{DiskAsk, Write, Sync, DiskView}
use Rattle.crash_disk.specs.Errors.{error_of}
use Rattle.crash_disk.specs.Layout.{start_of, newer_head, target_by}
use Rattle.crash_disk.specs.Loads.{Heads}
use Rattle.crash_disk.specs.declared.disk.DiskError.{DiskError}
use Rattle.crash_disk.specs.declared.slots.error.SlotError.{SlotError}
use Rattle.crash_disk.specs.declared.slots.head.Head.{Head}
use Rattle.crash_disk.specs.declared.slots.target.Target.{Target}

-- whether all was done, or why not
abbrev pub Outcome : Type 0
Outcome = Result (Unit {0}) DiskError

-- calls of this kind were made, and answered so
abbrev pub Kind : Type 1
Kind = List DiskAsk → Outcome → Type 0

-- over a call a disk was asked more, of this kind
abbrev pub Asks : DiskView → DiskView → (List DiskAsk → Type 0) → Type 0
Asks old new Are = (calls : List DiskAsk) × (new.asked ≡ old.asked ++ calls) × Are calls

-- one write, and one sync
abbrev pub WritesOnce : (at : ℕ) → (bytes : List ℕ) → Kind
WritesOnce at bytes calls answer = calls ≡ Write at bytes answer ∷ []

abbrev pub SyncsOnce : Kind
SyncsOnce calls answer = calls ≡ Sync answer ∷ []

-- some calls, and others where all of those were done; else nothing more, and why is the answer
pub record Then (First Next : Kind) (calls : List DiskAsk) (answer : Outcome) : Type 0 where
  pub first : List DiskAsk
  pub next : List DiskAsk
  pub between : Outcome
  pub split : calls ≡ first ++ next
  pub are : First first between
  pub goes_on : between ≡ Ok tt → Next next answer
  pub ends : (error : DiskError) → between ≡ Err error → (next ≡ []) × (answer ≡ Err error)

-- a gate is written, and synced
abbrev pub WritesGate : (at gate : ℕ) → Kind
WritesGate at gate = Then (WritesOnce at (gate ∷ [])) SyncsOnce

-- the gate of a target is closed where it is open
abbrev pub ClosesWhere : (gate_is_open : Bool) → (at : ℕ) → Kind
ClosesWhere true at calls answer = WritesGate at 0 calls answer
ClosesWhere false at calls answer = (calls ≡ []) × (answer ≡ Ok tt)

abbrev pub ClosesGate : (room : ℕ) → Target → Kind
ClosesGate room target = ClosesWhere target.gate_is_open (start_of room target.slot)

-- behind the gate the number and the length are written, then the content, and then both are synced
abbrev pub WritesContent : (room : ℕ) → Target → (bytes : List ℕ) → Kind
WritesContent room target bytes =
    Then (WritesOnce (start_of room target.slot + 1) (target.number ∷ to_be_bytes w64 (length bytes)))
    (Then (WritesOnce (start_of room target.slot + 16) bytes) SyncsOnce)

-- the gate is opened
abbrev pub OpensGate : (room : ℕ) → Target → Kind
OpensGate room target = WritesGate (start_of room target.slot) 1

-- the three one after another: no gate is opened before what it shows is synced
abbrev pub WritesTo : (room : ℕ) → Target → (bytes : List ℕ) → Kind
WritesTo room target bytes =
    Then (ClosesGate room target) (Then (WritesContent room target bytes) (OpensGate room target))

-- The target is found: what was written before is synced, and then the heads of both slots are read.
pub data FindsTarget (room : ℕ) (calls : List DiskAsk) (answer : Result Target DiskError) : Type 0 where
  not_synced : (error : DiskError) → calls ≡ Sync (Err error) ∷ [] → answer ≡ Err error
      → FindsTarget room calls answer
  heads_unread : (reads : List DiskAsk) (error : DiskError) → Heads room reads (Err error)
      → calls ≡ Sync (Ok tt) ∷ reads → answer ≡ Err error → FindsTarget room calls answer
  heads_found : (reads : List DiskAsk) (zero one : Head) → Heads room reads (Ok (zero, one))
      → calls ≡ Sync (Ok tt) ∷ reads → answer ≡ Ok (target_by (newer_head room zero one) zero one)
      → FindsTarget room calls answer

-- What a save asks: which slot is the target, and then to write there.
pub data AsksToSave (room : ℕ) (bytes : List ℕ) (calls : List DiskAsk) (answer : Outcome) : Type 0 where
  no_target : (error : DiskError) → FindsTarget room calls (Err error) → answer ≡ Err error
      → AsksToSave room bytes calls answer
  into_target : (target : Target) (first next : List DiskAsk) → FindsTarget room first (Ok target)
      → calls ≡ first ++ next → WritesTo room target bytes next answer → AsksToSave room bytes calls answer

-- what a save answers to that
abbrev pub save_answer : Outcome → Result (Unit {0}) SlotError
save_answer (Ok done) = Ok done
save_answer (Err error) = Err (error_of error)

-- over a call a disk was asked what a save asks that answered so
pub record HasSaved (room : ℕ) (bytes : List ℕ) (old new : DiskView) (answer : Result (Unit {0}) SlotError) : Type 0
  where
    pub between : Outcome
    pub asks : Asks old new (λ calls. AsksToSave room bytes calls between)
    pub says : answer ≡ save_answer between

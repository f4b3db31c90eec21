-- A file as the machine has it: what was asked of it, what it answered, and what it holds, for callers of `RawFile`.
use Rattle.std.specs.Prelude.{◌≡◌, ℕ, ◌+◌, ◌-◌, ◌<◌, List, [], ◌∷◌, ◌++◌, length, take, drop, replicate, Bool, true, false, Result, Ok, Err, Option, Some, None, is_ok}
use Rattle.outside_io.specs.RawOut.{count_of}
use Rattle.crash_disk.specs.DiskView.{Held, DiskView, DiskAsk}
use Rattle.crash_disk.specs.declared.opening.Opening.{Opening}
use Rattle.crash_disk.specs.declared.opening.Opening.TheVariants.{Opened, Absent, Refused}

-- One call. The file is opened, and made where that is asked for and it isn't there: it was, it isn't there, or the
-- machine refused. Bytes are read from an address on: how many were asked for, and those that were given, or none where
-- the machine refused. Bytes are written from an address on: how many of them, from the first on, the machine took, or
-- none where it refused. What was written is synced, and so is the folder in which the file stands: whether the machine
-- did so.
pub data RawCall : Type 0 where
  Opens : (makes : Bool) → (answer : Opening) → RawCall
  Reads : (at n : ℕ) → (answer : Option (List ℕ)) → RawCall
  Writes : (at : ℕ) → (bytes : List ℕ) → (answer : Option ℕ) → RawCall
  Syncs : (answer : Bool) → RawCall
  SyncsFolder : (answer : Bool) → RawCall

-- a call by what was given to it and what it answered
abbrev pub read_call : {E : Type 0} → ℕ → List ℕ → Result ℕ E → RawCall
read_call at bytes (Ok n) = Reads at (length bytes) (Some (take n bytes))
read_call at bytes (Err error) = Reads at (length bytes) None

abbrev pub write_call : {E : Type 0} → ℕ → List ℕ → Result ℕ E → RawCall
write_call at bytes (Ok n) = Writes at bytes (Some n)
write_call at bytes (Err error) = Writes at bytes None

abbrev pub sync_call : {E : Type 0} → Result (Unit {0}) E → RawCall
sync_call answer = Syncs (is_ok answer)

-- What a file shows: whether it is open; every call with its answer, the oldest first; the moment, and what it holds at
-- that and at each earlier moment, which count only where contents are known.
pub record RawView : Type 0 where
  pub is_open : Bool
  pub asked : List RawCall
  pub moment : ℕ
  pub held : ℕ → Held

-- what it holds now
abbrev pub raw_now : RawView → Held
raw_now file = file.held file.moment

-- the same as a disk of which nothing was asked
abbrev pub disk_of : RawView → DiskView
disk_of file = record { moment = file.moment; held = file.held; faults = 0; asked = [] }

-- the same as a disk that counts faults and lists its calls
abbrev pub disk_with : RawView → ℕ → List DiskAsk → DiskView
disk_with file faults asked = record (disk_of file) { faults = faults; asked = asked }

-- These calls read n bytes from an address on, each what the one before left, until all are there or the file ends; the
-- last one was refused where `whole` is false.
abbrev pub ReadsOn : ℕ → ℕ → List RawCall → Bool → Type 0
ReadsOn at n [] whole = (n ≡ 0) × (whole ≡ true)
ReadsOn at n (Reads from asked None ∷ calls) whole =
    (0 < n) × (from ≡ at) × (asked ≡ n) × (calls ≡ []) × (whole ≡ false)
ReadsOn at n (Reads from asked (Some bytes) ∷ calls) whole =
    (0 < n) × (from ≡ at) × (asked ≡ n)
    × (length bytes ≡ 0 → (calls ≡ []) × (whole ≡ true))
    × (0 < length bytes → ReadsOn (at + length bytes) (n - length bytes) calls whole)
ReadsOn at n (call ∷ calls) whole = ⊥

-- the bytes that calls gave, in order
abbrev pub given_by : List RawCall → List ℕ
given_by [] = []
given_by (Reads from asked (Some bytes) ∷ calls) = bytes ++ given_by calls
given_by (call ∷ calls) = given_by calls

-- bytes, with zeros behind them so that there are n
abbrev pub zeros_behind : ℕ → List ℕ → List ℕ
zeros_behind n bytes = bytes ++ replicate (n - length bytes) 0

-- These calls write bytes from an address on, each what the one before left, until all were taken; the last one was
-- refused, or took none, where `whole` is false.
abbrev pub WritesOn : ℕ → List ℕ → List RawCall → Bool → Type 0
WritesOn at bytes [] whole = (bytes ≡ []) × (whole ≡ true)
WritesOn at bytes (Writes from given answer ∷ calls) whole =
    (0 < length bytes) × (from ≡ at) × (given ≡ bytes)
    × (count_of answer ≡ 0 → (calls ≡ []) × (whole ≡ false))
    × (0 < count_of answer → WritesOn (at + count_of answer) (drop (count_of answer) bytes) calls whole)
WritesOn at bytes (call ∷ calls) whole = ⊥

-- What a read asks of the machine: nothing after a write or a sync that failed; to open the file, where it isn't open,
-- which reads as zeros where it isn't there; and then its bytes.
abbrev pub AsksToRead : (broken is_open : Bool) → (at n : ℕ) → List RawCall → (whole : Bool) → Type 0
AsksToRead true is_open at n calls whole = (calls ≡ []) × (whole ≡ false)
AsksToRead false true at n calls whole = ReadsOn at n calls whole
AsksToRead false false at n (Opens false Opened ∷ calls) whole = ReadsOn at n calls whole
AsksToRead false false at n (Opens false Absent ∷ calls) whole = (calls ≡ []) × (whole ≡ true)
AsksToRead false false at n (Opens false Refused ∷ calls) whole = (calls ≡ []) × (whole ≡ false)
AsksToRead false false at n calls whole = ⊥

-- What a write asks of it, and a sync: where the file isn't open, to open it, and to make it where it isn't there, and
-- then to sync its folder, so that a file that was made is still there after a power cut; whatever is answered to that.
abbrev pub AsksToWrite : (broken is_open : Bool) → (at : ℕ) → List ℕ → List RawCall → (whole : Bool) → Type 0
AsksToWrite true is_open at bytes calls whole = (calls ≡ []) × (whole ≡ false)
AsksToWrite false true at bytes calls whole = WritesOn at bytes calls whole
AsksToWrite false false at bytes (Opens true Opened ∷ (SyncsFolder answer ∷ calls)) whole =
    WritesOn at bytes calls whole
AsksToWrite false false at bytes (Opens true Opened ∷ calls) whole = ⊥
AsksToWrite false false at bytes (Opens true answer ∷ calls) whole = (calls ≡ []) × (whole ≡ false)
AsksToWrite false false at bytes calls whole = ⊥

abbrev pub AsksToSync : (broken is_open : Bool) → List RawCall → (whole : Bool) → Type 0
AsksToSync true is_open calls whole = (calls ≡ []) × (whole ≡ false)
AsksToSync false true calls whole = calls ≡ Syncs whole ∷ []
AsksToSync false false (Opens true Opened ∷ (SyncsFolder answer ∷ calls)) whole = calls ≡ Syncs whole ∷ []
AsksToSync false false (Opens true Opened ∷ calls) whole = ⊥
AsksToSync false false (Opens true answer ∷ calls) whole = (calls ≡ []) × (whole ≡ false)
AsksToSync false false calls whole = ⊥

-- more calls were made, of this kind
abbrev pub Asks : List RawCall → List RawCall → (List RawCall → Type 0) → Type 0
Asks old new Are = (calls : List RawCall) × (new ≡ old ++ calls) × Are calls

-- what a read gave of a buffer, or none where it was refused
abbrev pub read_bytes : {E : Type 0} → Result ℕ E → List ℕ → Option (List ℕ)
read_bytes (Ok n) bytes = Some (take n bytes)
read_bytes (Err error) bytes = None

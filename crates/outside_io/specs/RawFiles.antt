-- Files as the machine has them: what was asked of them, what they answered, and what they hold, for callers of
-- `RawFiles`.
use Rattle.std.specs.Prelude.{◌≡◌, ◌≢◌, ◌⊎◌, ℕ, ◌+◌, ◌<◌, ◌≤◌, List, [], ◌∷◌, ◌++◌, length, take, drop, Bool, true, false, IsTrue, Result, Ok, Err, is_ok, OnOk, OnErr, Option, Some, None, option_map, codes, ◌==◌, if◌then◌else◌}
use Rattle.std.specs.Path.{path_parent}
use Rattle.std.specs.IoError.{error_kind}
use Rattle.std.specs.declared.io.Error.{Error}
use Rattle.std.specs.declared.io.ErrorKind.{ErrorKind}
use Rattle.std.specs.declared.io.ErrorKind.TheVariants.{NotFound, PermissionDenied, ReadOnlyFilesystem, InvalidFilename}
use Rattle.outside_io.specs.Contents.{IsTorn}
use Rattle.outside_io.specs.RawOut.{count_of, taken_by_answer}
use Rattle.outside_io.specs.declared.store.StoreError.{StoreError}
use Rattle.outside_io.specs.declared.store.StoreError.TheVariants as store_error

-- A file, by its name; or a spare one, which is written beside a file and then takes its name. The names of spare files
-- are a set of their own: no file that is read or written by its name is one of them (`spares_are_no_files`).
pub data RawName : Type 0 where
  Named : (name : List ℕ) → RawName
  Spare : (name : List ℕ) → RawName

-- One call, with its answer. A file is opened to be read: whether it was. Bytes are read of the file that is open: how
-- many at most, and those that were given, or none where the machine refused. A name is looked at: whether a plain file
-- stands there, or why that isn't known. A file is opened to be written, and made or emptied: whether it was. A spare
-- file is made where there is none: or why not. Bytes are written to the file that is open: how many of them, from the
-- first on, were taken, or none where the machine refused. The file that is open is synced, a spare file gets the name
-- of a file, and a spare file is removed: whether it was.
pub data FilesCall : Type 0 where
  Opens : (name : List ℕ) → (answer : Bool) → FilesCall
  Reads : (most : ℕ) → (answer : Option (List ℕ)) → FilesCall
  Looks : (name : List ℕ) → (answer : Result Bool ErrorKind) → FilesCall
  Creates : (name : List ℕ) → (answer : Bool) → FilesCall
  CreatesSpare : (spare : List ℕ) → (answer : Result (Unit {0}) ErrorKind) → FilesCall
  Writes : (bytes : List ℕ) → (answer : Option ℕ) → FilesCall
  Syncs : (answer : Bool) → FilesCall
  Renames : (spare name : List ℕ) → (answer : Bool) → FilesCall
  Removes : (spare : List ℕ) → (answer : Bool) → FilesCall

-- an answer of the machine, of whose error the kind counts
abbrev pub by_kind : {A : Type 0} → Result A Error → Result A ErrorKind
by_kind (Ok value) = Ok value
by_kind (Err error) = Err (error_kind error)

-- what a read gave of a buffer, or none where it was refused
abbrev pub read_bytes : {E : Type 0} → Result ℕ E → List ℕ → Option (List ℕ)
read_bytes (Ok n) bytes = Some (take n bytes)
read_bytes (Err error) bytes = None

-- a read and a write by what was given to it and what it answered
abbrev pub read_call : {E : Type 0} → List ℕ → Result ℕ E → FilesCall
read_call bytes answer = Reads (length bytes) (read_bytes answer bytes)

abbrev pub write_call : {E : Type 0} → List ℕ → Result ℕ E → FilesCall
write_call bytes answer = Writes bytes (taken_by_answer answer)

-- What files show: whether one is open; every call with its answer, the oldest first; and, which counts only where
-- contents are known, what each holds, what reads of the open file will still give, and which file is written to.
pub record FilesView : Type 0 where
  pub is_open : Bool
  pub asked : List FilesCall
  pub held : RawName → Option (List ℕ)
  pub left : List ℕ
  pub writes_to : RawName

-- where files are known, each is as it was
abbrev pub SameHeld : Bool → FilesView → FilesView → Type 0
SameHeld tells old new = IsTrue tells → (q : RawName) → new.held q ≡ old.held q

-- the same, and the same file is written to
pub record StaysOpen (old new : FilesView) : Type 0 where
  pub writes_to : new.writes_to ≡ old.writes_to
  pub held : (q : RawName) → new.held q ≡ old.held q

-- where files are known, the file of each name is as it was
abbrev pub SameNamed : Bool → FilesView → FilesView → Type 0
SameNamed tells old new = IsTrue tells → (q : List ℕ) → new.held (Named q) ≡ old.held (Named q)

-- where files are known, each but this one and this spare one is as it was
abbrev pub OthersHeld : Bool → FilesView → FilesView → (spare name : List ℕ) → Type 0
OthersHeld tells old new spare name =
    IsTrue tells → (q : RawName) → q ≢ Named name → q ≢ Spare spare → new.held q ≡ old.held q

-- this file is written to, and nothing was yet
pub record IsEmptyOpen (files : FilesView) (file : RawName) : Type 0 where
  pub writes_to : files.writes_to ≡ file
  pub empty : files.held file ≡ Some []

-- this file is empty now and is written to, and each other is as it was
pub record StartsEmpty (old new : FilesView) (file : RawName) : Type 0 where
  pub writes_to : new.writes_to ≡ file
  pub empty : new.held file ≡ Some []
  pub others : (q : RawName) → q ≢ file → new.held q ≡ old.held q

-- the file that is written to got these bytes behind those that it had, and each other is as it was
pub record Grows (old new : FilesView) (bytes : List ℕ) : Type 0 where
  pub writes_to : new.writes_to ≡ old.writes_to
  pub grown : new.held old.writes_to ≡ option_map (λ c. c ++ bytes) (old.held old.writes_to)
  pub others : (q : RawName) → q ≢ old.writes_to → new.held q ≡ old.held q

-- it got a prefix of these bytes
abbrev pub GrowsByPrefix : FilesView → FilesView → List ℕ → Type 0
GrowsByPrefix old new bytes = (n : ℕ) × Grows old new (take n bytes)

-- a spare file took the name of a file, and each other is as it was
pub record Moves (old new : FilesView) (spare name : List ℕ) : Type 0 where
  pub moved : new.held (Named name) ≡ old.held (Spare spare)
  pub others : (q : RawName) → q ≢ Named name → q ≢ Spare spare → new.held q ≡ old.held q

-- more calls were made, of this kind
abbrev pub Asks : FilesView → FilesView → (List FilesCall → Type 0) → Type 0
Asks old new Are = (calls : List FilesCall) × (new.asked ≡ old.asked ++ calls) × Are calls

-- the bytes that reads gave, in order
abbrev pub given_by : List FilesCall → List ℕ
given_by [] = []
given_by (Reads most (Some bytes) ∷ calls) = bytes ++ given_by calls
given_by (call ∷ calls) = given_by calls

-- These calls read on, behind the bytes that were read before: to the end of the file, and all bytes are the answer; to
-- one that was refused; to one by which more than the limit were read; or to one for whose bytes there was no memory.
-- None asks for more bytes than are left of the limit and one.
abbrev pub ReadsOn : ℕ → List ℕ → List FilesCall → Result (List ℕ) StoreError → Type 0
ReadsOn limit before (Reads most None ∷ calls) answer =
    (0 < most) × (length before + most ≤ limit + 1) × (calls ≡ []) × (answer ≡ Err store_error.Failed)
ReadsOn limit before (Reads most (Some bytes) ∷ calls) answer =
    (0 < most) × (length before + most ≤ limit + 1)
    × (length bytes ≡ 0 → (calls ≡ []) × (answer ≡ Ok before))
    × (limit < length before + length bytes → (calls ≡ []) × (answer ≡ Err store_error.TooLong))
    × (0 < length bytes → length before + length bytes ≤ limit
    → ((calls ≡ []) × (answer ≡ Err store_error.NoMemory)) ⊎ ReadsOn limit (before ++ bytes) calls answer)
ReadsOn limit before calls answer = ⊥

-- What a read of a file asks: to open it, and then its bytes.
abbrev pub AsksToRead : (name : List ℕ) → (limit : ℕ) → List FilesCall → Result (List ℕ) StoreError → Type 0
AsksToRead name limit (Opens opened true ∷ calls) answer = (opened ≡ name) × ReadsOn limit [] calls answer
AsksToRead name limit (Opens opened false ∷ calls) answer =
    (opened ≡ name) × (calls ≡ []) × (answer ≡ Err store_error.Failed)
AsksToRead name limit calls answer = ⊥

-- These calls write bytes, each what the one before left, until all were taken; the last one was refused, or took none,
-- where `whole` is false.
abbrev pub WritesOn : List ℕ → List FilesCall → Bool → Type 0
WritesOn bytes [] whole = (bytes ≡ []) × (whole ≡ true)
WritesOn bytes (Writes given answer ∷ calls) whole =
    (0 < length bytes) × (given ≡ bytes)
    × (count_of answer ≡ 0 → (calls ≡ []) × (whole ≡ false))
    × (0 < count_of answer → WritesOn (drop (count_of answer) bytes) calls whole)
WritesOn bytes (call ∷ calls) whole = ⊥

-- some calls, and then others where all was well until there
pub record Then (First : List FilesCall → Bool → Type 0) (Next : List FilesCall → Bool → Type 0)
    (calls : List FilesCall) (whole : Bool) : Type 0 where
  pub first : List FilesCall
  pub next : List FilesCall
  pub well : Bool
  pub split : calls ≡ first ++ next
  pub are : First first well
  pub goes_on : well ≡ true → Next next whole
  pub ends : well ≡ false → (next ≡ []) × (whole ≡ false)

-- a sync, and a renaming
abbrev pub SyncsOnce : List FilesCall → Bool → Type 0
SyncsOnce calls whole = calls ≡ Syncs whole ∷ []

abbrev pub RenamesOnce : (spare name : List ℕ) → List FilesCall → Bool → Type 0
RenamesOnce spare name calls whole = calls ≡ Renames spare name whole ∷ []

-- the file that is open is filled: all bytes are written, and then it is synced
abbrev pub Fills : List ℕ → List FilesCall → Bool → Type 0
Fills bytes calls whole = Then (WritesOn bytes) SyncsOnce calls whole

-- a file is written in its place: made or emptied, and filled
abbrev pub WritesInPlace : (name bytes : List ℕ) → List FilesCall → Bool → Type 0
WritesInPlace name bytes (Creates created true ∷ calls) whole = (created ≡ name) × Fills bytes calls whole
WritesInPlace name bytes (Creates created false ∷ calls) whole =
    (created ≡ name) × (calls ≡ []) × (whole ≡ false)
WritesInPlace name bytes calls whole = ⊥

-- the spare file that is open is filled and takes the name
abbrev pub FillsAndRenames : (spare name bytes : List ℕ) → List FilesCall → Bool → Type 0
FillsAndRenames spare name bytes calls whole = Then (Fills bytes) (RenamesOnce spare name) calls whole

-- the same, and where that was refused the spare file is removed
pub record WritesBeside (spare name bytes : List ℕ) (calls : List FilesCall) (whole : Bool) : Type 0 where
  pub first : List FilesCall
  pub last : List FilesCall
  pub split : calls ≡ first ++ last
  pub are : FillsAndRenames spare name bytes first whole
  pub keeps : whole ≡ true → last ≡ []
  pub removes : whole ≡ false → (answer : Bool) × (last ≡ Removes spare answer ∷ [])

-- nothing stands at that name
abbrev pub is_absent : ErrorKind → Bool
is_absent NotFound = true
is_absent kind = false

-- no file can be made in that folder, while one that is there may be writable
abbrev pub bars_new_files : ErrorKind → Bool
bars_new_files PermissionDenied = true
bars_new_files ReadOnlyFilesystem = true
bars_new_files InvalidFilename = true
bars_new_files kind = false

-- where no spare file was made: the file is written in its place if none can be made there, and else nothing more is
-- asked
abbrev pub WithoutSpare : (barred : Bool) → (name bytes : List ℕ) → List FilesCall → Bool → Type 0
WithoutSpare true name bytes calls whole = WritesInPlace name bytes calls whole
WithoutSpare false name bytes calls whole = (calls ≡ []) × (whole ≡ false)

abbrev pub AfterMaking : Result (Unit {0}) ErrorKind → (spare name bytes : List ℕ) → List FilesCall → Bool → Type 0
AfterMaking (Ok made) spare name bytes calls whole = WritesBeside spare name bytes calls whole
AfterMaking (Err kind) spare name bytes calls whole = WithoutSpare (bars_new_files kind) name bytes calls whole

-- a file is replaced: a spare file that is left of a run that was broken off is removed, one is made, filled, and
-- renamed
abbrev pub Replaces : (spare name bytes : List ℕ) → List FilesCall → Bool → Type 0
Replaces spare name bytes (Removes removed gone ∷ (CreatesSpare created answer ∷ calls)) whole =
    (removed ≡ spare) × (created ≡ spare) × AfterMaking answer spare name bytes calls whole
Replaces spare name bytes calls whole = ⊥

abbrev pub AfterLookRefused : (absent : Bool) → (spare name bytes : List ℕ) → List FilesCall → Bool → Type 0
AfterLookRefused true spare name bytes calls whole = Replaces spare name bytes calls whole
AfterLookRefused false spare name bytes calls whole = (calls ≡ []) × (whole ≡ false)

abbrev pub AfterLook : Result Bool ErrorKind → (spare name bytes : List ℕ) → List FilesCall → Bool → Type 0
AfterLook (Ok true) spare name bytes calls whole = Replaces spare name bytes calls whole
AfterLook (Ok false) spare name bytes calls whole = WritesInPlace name bytes calls whole
AfterLook (Err kind) spare name bytes calls whole = AfterLookRefused (is_absent kind) spare name bytes calls whole

-- A file is written by its name: it is asked what stands there; and then a plain file or none is replaced, a link or a
-- device is written in its place, and where that isn't known nothing more is asked.
abbrev pub WritesNamed : (spare name bytes : List ℕ) → List FilesCall → Bool → Type 0
WritesNamed spare name bytes (Looks looked answer ∷ calls) whole =
    (looked ≡ name) × AfterLook answer spare name bytes calls whole
WritesNamed spare name bytes calls whole = ⊥

-- the folder in which a name stands: its parent; or where it has none of a name, the folder in which the program runs
abbrev pub folder_by : Option (List ℕ) → List ℕ
folder_by None = codes "."
folder_by (Some parent) = if length parent == 0 then codes "." else parent

abbrev pub folder_of : List ℕ → List ℕ
folder_of name = folder_by (path_parent name)

-- a folder is synced where it can be opened, whatever is answered to that
abbrev pub SyncsFolder : (folder : List ℕ) → List FilesCall → Bool → Type 0
SyncsFolder folder (Opens opened false ∷ calls) whole = (opened ≡ folder) × (calls ≡ []) × (whole ≡ true)
SyncsFolder folder (Opens opened true ∷ calls) whole =
    (opened ≡ folder) × ((answer : Bool) × (calls ≡ Syncs answer ∷ [])) × (whole ≡ true)
SyncsFolder folder calls whole = ⊥

-- What a write of a file asks: to write it by its name, and where all of that was done to sync the folder, so that the
-- name is still that of the new file after a power cut.
abbrev pub AsksToWrite : (spare name bytes : List ℕ) → List FilesCall → Bool → Type 0
AsksToWrite spare name bytes calls whole =
    Then (WritesNamed spare name bytes) (SyncsFolder (folder_of name)) calls whole

-- the name of the spare file beside a file
abbrev pub spare_of : List ℕ → List ℕ
spare_of name = name ++ codes ".new"

-- one of these calls makes or empties a file in its place
abbrev pub empties : List FilesCall → Bool
empties [] = false
empties (Creates name answer ∷ calls) = true
empties (call ∷ calls) = empties calls

-- the file of each name, without the spare ones
abbrev pub named_files : FilesView → List ℕ → Option (List ℕ)
named_files files name = files.held (Named name)

-- What a write of a file did, which made calls of this kind. Where all was done the file holds the bytes. Where not, it
-- is as it was or holds a prefix of them; and each is as it was, where none was emptied in its place. No other file
-- changed, but the spare one.
pub record WritesFile {E : Type 0} (tells : Bool) (old new : FilesView) (spare name bytes : List ℕ)
    (Are : List FilesCall → Bool → Type 0) (result : Result (Unit {0}) E) : Type 0 where
  pub asks : Asks old new (λ calls.
      Are calls (is_ok result) × (empties calls ≡ false → OnErr result (SameNamed tells old new)))
  pub written : OnOk result (IsTrue tells → new.held (Named name) ≡ Some bytes)
  pub torn : IsTrue tells → IsTorn (old.held (Named name)) (new.held (Named name)) bytes
  pub others_stay : OthersHeld tells old new spare name

-- Standard output as the machine has it: what was asked of it, and what it answered, for callers of `RawOut`.
use Rattle.std.specs.Prelude.{◌≡◌, ℕ, ◌<◌, List, [], ◌∷◌, ◌++◌, length, take, drop, Bool, true, false, Result, Ok, Err, Option, Some, None}
use Rattle.outside_io.specs.SinkView.{SinkView}

-- one call: the bytes that were handed on, and how many of them, from the first on, the machine took, or none where it
-- refused
pub record OutCall : Type 0 where
  pub bytes : List ℕ
  pub taken : Option ℕ

-- the number that an answer gives
abbrev pub taken_by_answer : {E : Type 0} → Result ℕ E → Option ℕ
taken_by_answer (Ok n) = Some n
taken_by_answer (Err error) = None

-- a call by what was given to it and what it answered
abbrev pub out_call : {E : Type 0} → List ℕ → Result ℕ E → OutCall
out_call bytes answer = record { bytes = bytes; taken = taken_by_answer answer }

-- how many bytes a call got rid of: none where the machine refused
abbrev pub count_of : Option ℕ → ℕ
count_of None = 0
count_of (Some n) = n

-- all bytes that the machine took, in order
abbrev pub taken_of : List OutCall → List ℕ
taken_of [] = []
taken_of (call ∷ calls) = take (count_of call.taken) call.bytes ++ taken_of calls

-- These calls hand on bytes, each what the one before left, until all were taken; the last one was refused, or took
-- none, where `whole` is false.
abbrev pub HandsOn : List ℕ → List OutCall → Bool → Type 0
HandsOn bytes [] whole = (bytes ≡ []) × (whole ≡ true)
HandsOn bytes (call ∷ calls) whole =
    (0 < length bytes) × (call.bytes ≡ bytes)
    × (count_of call.taken ≡ 0 → (calls ≡ []) × (whole ≡ false))
    × (0 < count_of call.taken → HandsOn (drop (count_of call.taken) bytes) calls whole)

-- one more call was made, with these bytes, and the machine took this many of them
abbrev pub AsksOnce : List OutCall → List OutCall → List ℕ → ℕ → Type 0
AsksOnce old new bytes count =
    (call : OutCall) × (new ≡ old ++ call ∷ []) × (call.bytes ≡ bytes) × (count_of call.taken ≡ count)

-- more calls were made, which hand on these bytes
abbrev pub AsksAll : List OutCall → List OutCall → List ℕ → Bool → Type 0
AsksAll old new bytes whole = (calls : List OutCall) × (new ≡ old ++ calls) × HandsOn bytes calls whole

-- what a sink over standard output shows: the bytes that the machine took
abbrev pub std_view : List OutCall → ℕ → SinkView
std_view calls faults = record { written = taken_of calls; faults = faults }

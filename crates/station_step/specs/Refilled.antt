-- What came of a refill of a station's hands: only the station itself reads these words.
use Rattle.std.specs.Prelude.{ℕ, List, Option, None, Some, ⊤, slice_index, unwrap_or}
use Rattle.station_step.specs.declared.input.Input.{Input}
use Rattle.station_step.specs.declared.refilled.Refilled.{Refilled}
use Rattle.station_step.specs.declared.refilled.Refilled.TheVariants.{Full, Empty}
use Rattle.station_step.specs.Input.{input_at}
use Rattle.station_step.specs.Kept.{saturating}

-- what came of it, by the first hand that is empty, if one is, the last such, and the date that the tokens in the hands
-- ask for
abbrev pub refill_result : Option ℕ → ℕ → ℕ → Refilled
refill_result None last latest = Full latest
refill_result (Some first) last latest = Empty first last

-- where all hands are full, this holds of the date that their tokens ask for
abbrev pub IfFull : Refilled → (ℕ → Type 0) → Type 0
IfFull (Full date) holds = holds date
IfFull (Empty first last) holds = ⊤

-- where hands are empty, this holds of the first and the last of their inputs
abbrev pub IfEmpty : Refilled → (ℕ → ℕ → Type 0) → Type 0
IfEmpty (Full date) holds = ⊤
IfEmpty (Empty first last) holds = holds first last

-- what the token in the hand of input k asks of the date of a job that adds this to the token on each input
abbrev pub hand_asks : List ℕ → List Input → ℕ → ℕ
hand_asks extras inputs k = saturating (unwrap_or (input_at inputs k).hand 0) (slice_index extras k)

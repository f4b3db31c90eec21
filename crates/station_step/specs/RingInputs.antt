-- What looks and takes at the inputs of a station that are over rings change: only the station itself reads these words.
use Rattle.std.specs.Prelude.{◌≡◌, ℕ, ◌<◌, ◌≤◌, ◌++◌, ◌∷◌, Bool, true, false, List, [], if◌then◌else◌, length, slice_index}
use Rattle.station_step.specs.declared.ends.Inlet.{Inlet}
use Rattle.station_step.specs.declared.ends.Inlet.TheVariants as inlet
use Rattle.station_step.specs.declared.input.Input.{Input}
use Rattle.station_step.specs.Ends.{inlet_looks, unseen_inlet, is_ring_inlet, HasKnown, KnowsMore}
use Rattle.station_step.specs.Input.{input_at}
use Rattle.station_step.specs.Kept.{saturating}
use Rattle.station_step.specs.Station.{WorkStation}

-- whether an input is over a ring
abbrev pub is_ring_input : Input → Bool
is_ring_input input = is_ring_inlet input.inlet

-- an input may have looked, and know of more tokens; nothing was taken, and its hand stays
pub record HasLookedIn (before after : Input) : Type 0 where
  pub same : unseen_inlet after.inlet ≡ unseen_inlet before.inlet
  pub more : KnowsMore before.inlet after.inlet
  pub looks : inlet_looks before.inlet ≤ inlet_looks after.inlet
  pub hand : after.hand ≡ before.hand

-- the inputs of a station may know of more tokens; nothing else of it changed
pub record HaveLooked (before after : WorkStation) : Type 0 where
  pub rest : after ≡ record before { inputs = after.inputs }
  pub count : length after.inputs ≡ length before.inputs
  pub each : (k : ℕ) → k < length before.inputs →
      HasLookedIn (input_at before.inputs k) (input_at after.inputs k)

-- a token is known at each input over a ring
abbrev pub AreKnown : List Input → Type 0
AreKnown inputs = (k : ℕ) → k < length inputs → HasKnown (input_at inputs k).inlet

-- the tokens that were taken at the end of a ring
abbrev pub ring_taken : Inlet → List ℕ
ring_taken (inlet.Ring take) = take.taken
ring_taken (inlet.Room take) = take.taken
ring_taken (inlet.Local k) = []

-- the token that an inlet over a ring gave
abbrev pub ring_token : Inlet → Inlet → ℕ
ring_token before after = slice_index (ring_taken after) (length (ring_taken before))

-- an input over a ring gave a token, and any other nothing; its hand stays
pub record HasGiven (before after : Input) : Type 0 where
  pub ring : is_ring_inlet before.inlet ≡ true →
      ring_taken after.inlet ≡ ring_taken before.inlet ++ ring_token before.inlet after.inlet ∷ []
  pub stays : is_ring_inlet before.inlet ≡ false → after ≡ before
  pub hand : after.hand ≡ before.hand

-- what the token of input k asks of the date of the job, where it is over a ring
abbrev pub ring_asks : List ℕ → List Input → List Input → ℕ → ℕ
ring_asks extras before after k =
    if is_ring_input (input_at before k)
    then saturating (ring_token (input_at before k).inlet (input_at after k).inlet) (slice_index extras k)
    else 0

-- The one input for which a station waits, where all hands but its own are full, and what a step does where no token
-- has come there. Only the station itself reads these words.
use Rattle.std.specs.Prelude.{◌≡◌, ◌≢◌, ℕ, ◌+◌, ◌<◌, Bool, false, List, Option, None, IfSome, IsSome, length, slice_index}
use Rattle.line_base.specs.declared.event.Parts.{Parts}
use Rattle.line_base.specs.Roomy.{RoomyLog}
use Rattle.card_queue.specs.Plain.{PlainQueue}
use Rattle.event_graph.specs.Network.{jobs, ins}
use Rattle.station_step.specs.declared.input.Input.{Input}
use Rattle.station_step.specs.declared.waits.EmptyHand.{EmptyHand}
use Rattle.station_step.specs.Input.{input_at}
use Rattle.station_step.specs.RingInputs.{HaveLooked}
use Rattle.station_step.specs.Station.{WorkStation, IsStation}
use Rattle.station_step.specs.Step.{IsBlocked, OnlyRefilled}

-- of the inputs of station t this one has an empty hand, and every other one a full hand
pub record IsOnlyEmpty (g : Parts) (t : ℕ) (inputs : List Input) (hand : EmptyHand) : Type 0 where
  pub there : hand.input < length inputs
  pub arc_is : slice_index (ins g t) hand.input ≡ hand.arc
  pub empty : (input_at inputs hand.input).hand ≡ None
  pub others : (k : ℕ) → k < length inputs → k ≢ hand.input → IsSome (input_at inputs k).hand

-- where a station has noted that one hand alone is empty, that is so, dates are left to be made, and it may not fire at
-- once
pub record IsWaiting (g : Parts) (t : ℕ) (inputs : List Input) (log : RoomyLog) (at_once : Bool)
    (noted : Option EmptyHand) : Type 0 where
  pub hand : IfSome noted (IsOnlyEmpty g t inputs)
  pub left : IfSome noted (λ _. length log.dates < jobs g)
  pub by_hands : IfSome noted (λ _. at_once ≡ false)

-- a station with one turn more
abbrev pub with_turn : WorkStation → WorkStation
with_turn s = record s { turns = s.turns + 1 }

-- a step at which no token has come for the one hand that is empty: its arc is blocked, and the station has looked
-- there at most and has one turn more
pub record StaysBlocked (shelf : List PlainQueue) (before after : WorkStation) (arc : ℕ) : Type 0 where
  pub left : length before.log.dates < jobs before.graph
  pub looked : HaveLooked (with_turn before) after
  pub station : IsStation after
  pub blocked : IsBlocked shelf before after arc
  pub did : OnlyRefilled shelf shelf before after

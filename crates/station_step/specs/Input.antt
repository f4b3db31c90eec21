-- An input of a station: an inlet, and the hand that it fills.
use Rattle.std.specs.Prelude.{◌≡◌, ◌≢◌, ℕ, ◌+◌, ◌≤◌, ◌<◌, List, ◌++◌, None, Some, IfSome, IsSome, IfNone, drop, length, slice_index_or, option_to_list}
use Rattle.card_queue.specs.Plain.{PlainQueue}
use Rattle.station_step.specs.declared.ends.Inlet.{Inlet}
use Rattle.station_step.specs.declared.ends.Inlet.TheVariants.{Local}
use Rattle.station_step.specs.declared.input.Input.{Input}
use Rattle.station_step.specs.Ends.{inlet_taken, inlet_ahead, inlet_queue, bare_inlet, HasAsked}

-- an input with an empty hand
abbrev pub empty_handed : Inlet → Input
empty_handed inlet = record { inlet = inlet; hand = None }

-- the input with this number
abbrev pub input_at : List Input → ℕ → Input
input_at inputs k = slice_index_or inputs k (record { inlet = Local 0; hand = None })

-- one token was taken for each of this many firings, and one more where the hand is full, which it holds
pub record IsHeld (shelf : List PlainQueue) (fired : ℕ) (input : Input) : Type 0 where
  pub enough : fired ≤ length (inlet_taken shelf input.inlet)
  pub rest : drop fired (inlet_taken shelf input.inlet) ≡ option_to_list input.hand

-- how many tokens are on the arc of an input, as far as they are known: the one in the hand, and those that come next
abbrev pub tokens_ahead : List PlainQueue → Input → ℕ
tokens_ahead shelf input = length (option_to_list input.hand) + inlet_ahead shelf input.inlet

-- a full hand stays; an empty one takes the next token, and is empty after that only where none was known, and none was
-- found by a look at the ring, where its inlet is the end of one
pub record IsRefilled (old new : List PlainQueue) (before after : Input) : Type 0 where
  pub same : bare_inlet after.inlet ≡ bare_inlet before.inlet
  pub taken : inlet_taken new after.inlet ++ option_to_list before.hand ≡
      inlet_taken old before.inlet ++ option_to_list after.hand
  pub full : IsSome before.hand → after.hand ≡ before.hand
  pub empty : IfNone after.hand (tokens_ahead old before ≡ 0)
  pub asked : IfNone after.hand (HasAsked before.inlet after.inlet)

-- the inputs with these numbers take from no queue of the shelf twice
abbrev pub TakeApart : List Input → Type 0
TakeApart inputs = (j k : ℕ) → j < k → k < length inputs → (q : ℕ) →
    inlet_queue (input_at inputs j).inlet ≡ Some q → inlet_queue (input_at inputs k).inlet ≢ Some q

-- no input takes from queue q of the shelf
abbrev pub NoneTakes : ℕ → List Input → Type 0
NoneTakes q inputs = (k : ℕ) → k < length inputs → inlet_queue (input_at inputs k).inlet ≢ Some q

-- each queue from which an input takes is on a shelf of this many
abbrev pub TakeWithin : ℕ → List Input → Type 0
TakeWithin count inputs =
    (k : ℕ) → k < length inputs → IfSome (inlet_queue (input_at inputs k).inlet) (λ q. q < count)

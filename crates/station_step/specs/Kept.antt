-- What a station together with its shelf keeps: its dates and its puts follow from the tokens that it took.
-- Source: Baccelli, Cohen, Olsder, Quadrat, Synchronization and Linearity, firing of a transition.
use Rattle.std.specs.Prelude.{◌≡◌, ℕ, ◌+◌, ◌-◌, ◌^◌, ◌≤◌, ◌<◌, ◌==◌, if◌then◌else◌, min, List, [], IfSome, map, drop, length, slice_index}
use Rattle.std.specs.List.{range_with_len}
use Rattle.line_base.specs.declared.event.Parts.{Parts}
use Rattle.card_queue.specs.Plain.{PlainQueue, plain_taken}
use Rattle.event_graph.specs.Network.{jobs, demand, delay, ins, outs}
use Rattle.event_graph.specs.Term.{work}
use Rattle.event_graph.specs.GreatestValue.{greatest}
use Rattle.station_step.specs.Shelf.{queue_at}
use Rattle.station_step.specs.Ends.{inlet_taken, inlet_queue, outlet_added, outlet_room, outlet_queue}
use Rattle.station_step.specs.Input.{IsHeld, input_at}
use Rattle.station_step.specs.Station.{WorkStation, firings, outlet_at}

-- the saturating sum: no date is above the greatest number of 64 bits
abbrev pub saturating : ℕ → ℕ → ℕ
saturating a b = min (a + b) (2 ^ 64 - 1)

-- what the token on input k of station t asks of the date of a job: its date, with the time where the arc is worked
abbrev pub date_asked : Parts → ℕ → ℕ → (ℕ → ℕ) → ℕ → ℕ
date_asked g t job token k = saturating (token k) (work g (slice_index (ins g t) k) job)

-- the date of a job at station t for which these tokens were taken, one on each input: the greatest that
-- they ask for, and for the feed the demand date
unfoldable pub date_for : Parts → ℕ → ℕ → (ℕ → ℕ) → ℕ
date_for g t job token =
    if t == 0 then demand g job else greatest (date_asked g t job token) (range_with_len 0 (length (ins g t)))

-- the token that was taken on input k for firing n, where firings are counted from 0
abbrev pub token_for : List PlainQueue → WorkStation → ℕ → ℕ → ℕ
token_for shelf s n k = slice_index (inlet_taken shelf (input_at s.inputs k).inlet) n

-- what output k got: the date of each firing, with the delay of its arc
abbrev pub dates_sent : WorkStation → ℕ → List ℕ
dates_sent s k =
    map (λ date. saturating date (delay s.graph (slice_index (outs s.graph s.number) k))) (drop s.made s.log.dates)

-- the log is the one that the station was made with, followed by a date for each firing, which follows from the
-- tokens taken for it; each input gave a token for each firing, and one more to a full hand; each output got the dates
pub record IsKept (shelf : List PlainQueue) (s : WorkStation) : Type 0 where
  pub held : (k : ℕ) → k < length s.inputs → IsHeld shelf (firings s) (input_at s.inputs k)
  pub dates : (n : ℕ) → n < firings s →
      slice_index s.log.dates (s.made + n) ≡ date_for s.graph s.number (s.made + n + 1) (token_for shelf s n)
  pub added : (k : ℕ) → k < length s.outlets → outlet_added shelf (outlet_at s.outlets k) ≡ dates_sent s k
  pub room : (k : ℕ) → k < length s.outlets → jobs s.graph ≤ s.made + outlet_room shelf (outlet_at s.outlets k)

-- since they were made, nothing was taken from the station's queues on the shelf and nothing put on them, and they have
-- room for a token of each firing that is left
pub record IsFresh (shelf : List PlainQueue) (s : WorkStation) : Type 0 where
  pub untaken : (k : ℕ) → k < length s.inputs →
      IfSome (inlet_queue (input_at s.inputs k).inlet) (λ q. plain_taken (queue_at shelf q) ≡ [])
  pub unfilled : (k : ℕ) → k < length s.outlets →
      IfSome (outlet_queue (outlet_at s.outlets k)) (λ q. (queue_at shelf q).added ≡ [])
  pub room : (k : ℕ) → k < length s.outlets →
      IfSome (outlet_queue (outlet_at s.outlets k)) (λ q. jobs s.graph ≤ s.made + (queue_at shelf q).room)

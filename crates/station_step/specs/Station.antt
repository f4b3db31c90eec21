-- What contracts see of a station, and what holds of each.
use Rattle.std.specs.Prelude.{◌≡◌, ◌≢◌, ℕ, ◌-◌, ◌≤◌, ◌<◌, List, [], ◌⊎◌, None, Some, IfSome, map, length, slice_index, slice_index_or, slice_set}
use Rattle.line_base.specs.declared.event.Parts.{Parts}
use Rattle.line_base.specs.Roomy.{RoomyLog}
use Rattle.card_queue.specs.Plain.{PlainQueue}
use Rattle.event_graph.specs.Network.{stations, jobs, delay, ins, outs}
use Rattle.station_step.specs.Shelf.{WorkShelf, log_on, source_at}
use Rattle.station_step.specs.declared.source.Source.{Source}
use Rattle.station_step.specs.declared.ends.Inlet.{Inlet}
use Rattle.station_step.specs.declared.ends.Outlet.{Outlet}
use Rattle.station_step.specs.declared.ends.Outlet.TheVariants.{Local}
use Rattle.station_step.specs.declared.input.Input.{Input}
use Rattle.station_step.specs.Ends.{HasRingRoom, HasShelfRoom, bare_inlet, bare_outlet, inlet_queue, outlet_queue}
use Rattle.station_step.specs.Input.{input_at, empty_handed, TakeApart, TakeWithin, NoneTakes}

-- what contracts see of a `Station`
pub record WorkStation : Type 0 where
  pub graph : Parts  -- the graph that it was made for
  pub number : ℕ  -- its number in that graph
  pub inputs : List Input  -- an inlet and a hand for each arc into it, in the order of the arcs
  pub outlets : List Outlet  -- an outlet for each arc out of it, in the order of the arcs
  pub log : RoomyLog
  pub made : ℕ  -- how many dates its log was made with
  pub turns : ℕ

-- a station that is made with these ends and this log
abbrev pub new_station : Parts → ℕ → List Inlet → List Outlet → RoomyLog → WorkStation
new_station g t inlets outlets log = record {
  graph = g;
  number = t;
  inputs = map empty_handed inlets;
  outlets = outlets;
  log = log;
  made = length log.dates;
  turns = 0;
}

-- a station with another inlet at input k, whose hand stays
abbrev pub with_inlet : WorkStation → ℕ → Inlet → WorkStation
with_inlet s k inlet =
    record s { inputs = slice_set s.inputs k (record (input_at s.inputs k) { inlet = inlet }) }

-- a station with another outlet at output k
abbrev pub with_outlet : WorkStation → ℕ → Outlet → WorkStation
with_outlet s k outlet = record s { outlets = slice_set s.outlets k outlet }

-- how many firings it made
abbrev pub firings : WorkStation → ℕ
firings s = length s.log.dates - s.made

-- the outlet with this number
abbrev pub outlet_at : List Outlet → ℕ → Outlet
outlet_at outlets k = slice_index_or outlets k (Local 0)

-- no outlet puts on queue q of the shelf
abbrev pub NonePuts : ℕ → List Outlet → Type 0
NonePuts q outlets = (k : ℕ) → k < length outlets → outlet_queue (outlet_at outlets k) ≢ Some q

-- the outlets put on no queue of the shelf twice
abbrev pub PutApart : List Outlet → Type 0
PutApart outlets = (j k : ℕ) → j < k → k < length outlets → (q : ℕ) →
    outlet_queue (outlet_at outlets j) ≡ Some q → outlet_queue (outlet_at outlets k) ≢ Some q

-- each queue on which an outlet puts is on a shelf of this many
abbrev pub PutWithin : ℕ → List Outlet → Type 0
PutWithin count outlets =
    (k : ℕ) → k < length outlets → IfSome (outlet_queue (outlet_at outlets k)) (λ q. q < count)

-- some outlet puts on queue q of the shelf
abbrev pub SomePuts : ℕ → List Outlet → Type 0
SomePuts q outlets = (k : ℕ) × ((k < length outlets) × (outlet_queue (outlet_at outlets k) ≡ Some q))

-- the tokens of the queues on which these outlets put are the dates of the worker's station i with these delays, and
-- those of no other queue are
pub record ComeFrom (i : ℕ) (delays : List ℕ) (shelf : WorkShelf) (outlets : List Outlet) : Type 0 where
  pub own : (k q : ℕ) → k < length outlets → outlet_queue (outlet_at outlets k) ≡ Some q →
      source_at shelf.sources q ≡ record { station = i; delay = slice_index delays k }
  pub puts : (q : ℕ) → q < length shelf.queues → (source_at shelf.sources q).station ≡ i → SomePuts q outlets

-- the tokens of the queues from which these inputs take are later than the dates of their sources by these delays
abbrev pub TakeLater : List ℕ → List Source → List Input → Type 0
TakeLater delays sources inputs = (k q : ℕ) → k < length inputs → inlet_queue (input_at inputs k).inlet ≡ Some q →
    (source_at sources q).delay ≡ slice_index delays k

-- one input for each arc into the station and one outlet for each arc out of it; the log, and each
-- ring's put, has room for the firings that are left
pub record IsStation (s : WorkStation) : Type 0 where
  pub exists : s.number < stations s.graph
  pub an_input_each : length s.inputs ≡ length (ins s.graph s.number)
  pub an_outlet_each : length s.outlets ≡ length (outs s.graph s.number)
  pub made : s.made ≤ length s.log.dates
  pub few_dates : length s.log.dates ≤ jobs s.graph
  pub log_room : jobs s.graph ≤ s.log.room
  pub ring_room : (k : ℕ) → k < length s.outlets →
      HasRingRoom (jobs s.graph - length s.log.dates) (outlet_at s.outlets k)

-- each of its queues on the shelf is there, and it uses no queue at two inputs or at two outlets
pub record IsSeated (shelf : List PlainQueue) (s : WorkStation) : Type 0 where
  pub takes_within : TakeWithin (length shelf) s.inputs
  pub takes_apart : TakeApart s.inputs
  pub puts_within : PutWithin (length shelf) s.outlets
  pub puts_apart : PutApart s.outlets

-- it is the worker's station i: its log stands there, and its queues look into it, with the delays of their arcs, as
-- those from which it takes look into the logs of others
pub record StandsAt (i : ℕ) (shelf : WorkShelf) (s : WorkStation) : Type 0 where
  pub there : i < length shelf.logs
  pub log : log_on shelf.logs i ≡ s.log
  pub come : ComeFrom i (map (delay s.graph) (outs s.graph s.number)) shelf s.outlets
  pub later : TakeLater (map (delay s.graph) (ins s.graph s.number)) shelf.sources s.inputs

-- where dates are left to be made, each of its outlets on the shelf has room for a token
abbrev pub MayPut : List PlainQueue → WorkStation → Type 0
MayPut shelf s = length s.log.dates < jobs s.graph → (k : ℕ) → k < length s.outlets →
    HasShelfRoom shelf (outlet_at s.outlets k)

-- two stations take from no queue of the shelf together, and put on none together
pub record AreApart (s other : WorkStation) : Type 0 where
  pub takes : (q : ℕ) → NoneTakes q s.inputs ⊎ NoneTakes q other.inputs
  pub puts : (q : ℕ) → NonePuts q s.outlets ⊎ NonePuts q other.outlets

-- an input with nothing taken and an empty hand
abbrev pub bare_input : Input → Input
bare_input input = record { inlet = bare_inlet input.inlet; hand = None }

-- a station without what its steps change: its graph and number, its queues, its room, what it was made with
abbrev pub bare_station : WorkStation → WorkStation
bare_station s = record s {
  inputs = map bare_input s.inputs;
  outlets = map bare_outlet s.outlets;
  log = record s.log { dates = [] };
  turns = 0;
}

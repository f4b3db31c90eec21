-- What a step of a station did, and when it answers what.
use Rattle.std.specs.Prelude.{◌≡◌, ◌≢◌, ℕ, ◌+◌, ◌<◌, ⊤, List, None, IsSome, length, slice_index, slice_set}
use mathlib.Core.List.{IsPrefix}
use Rattle.line_base.specs.Roomy.{with_date}
use Rattle.card_queue.specs.Plain.{PlainQueue, plain_taken}
use Rattle.event_graph.specs.Network.{jobs, ins, outs}
use Rattle.station_step.specs.declared.stepped.Stepped.{Stepped}
use Rattle.station_step.specs.declared.stepped.Stepped.TheVariants.{Fired, Blocked, Full, Done}
use Rattle.station_step.specs.Shelf.{WorkShelf, queue_at, unused_queue, OnlyTakes}
use Rattle.station_step.specs.Ends.{outlet_looks, HasSpace, HasNoSpace, HasLooked, HasAsked}
use Rattle.station_step.specs.Input.{input_at, tokens_ahead, IsRefilled, NoneTakes}
use Rattle.station_step.specs.Station.{WorkStation, IsStation, IsSeated, StandsAt, AreApart, outlet_at, NonePuts, bare_station}
use Rattle.station_step.specs.Kept.{IsKept}

-- dates are left to be made, each arc into the station has a token, in the hand or known to come next, and each
-- outlet has space, as all have but those of rings of bounded room
pub record IsReady (shelf : List PlainQueue) (s : WorkStation) : Type 0 where
  pub more : length s.log.dates < jobs s.graph
  pub tokens : (k : ℕ) → k < length s.inputs → 0 < tokens_ahead shelf (input_at s.inputs k)
  pub space : (k : ℕ) → k < length s.outlets → HasSpace (outlet_at s.outlets k)

-- this arc, that of input k, had no token in the hand and none known, and its ring, where it is one, was looked at in
-- this step; every input before it has its hand full now
pub record IsBlockedAt (shelf : List PlainQueue) (before after : WorkStation) (arc k : ℕ) : Type 0 where
  pub there : k < length before.inputs
  pub arc_is : slice_index (ins before.graph before.number) k ≡ arc
  pub none : tokens_ahead shelf (input_at before.inputs k) ≡ 0
  pub looked : HasAsked (input_at before.inputs k).inlet (input_at after.inputs k).inlet
  pub empty : (input_at after.inputs k).hand ≡ None
  pub first : (j : ℕ) → j < k → IsSome (input_at after.inputs j).hand

abbrev pub IsBlocked : List PlainQueue → WorkStation → WorkStation → ℕ → Type 0
IsBlocked shelf before after arc = (k : ℕ) × IsBlockedAt shelf before after arc k

-- this arc, that of outlet k, had no space at its look in this step; every outlet before it has space now
pub record IsFullAt (before after : WorkStation) (arc k : ℕ) : Type 0 where
  pub there : k < length before.outlets
  pub arc_is : slice_index (outs before.graph before.number) k ≡ arc
  pub looked : outlet_looks (outlet_at after.outlets k) ≡ outlet_looks (outlet_at before.outlets k) + 1
  pub none : HasNoSpace (outlet_at after.outlets k)
  pub first : (j : ℕ) → j < k → HasSpace (outlet_at after.outlets j)

abbrev pub IsFull : WorkStation → WorkStation → ℕ → Type 0
IsFull before after arc = (k : ℕ) × IsFullAt before after arc k

-- the answer is that the station is done, or that it fired
abbrev pub IsDone : Stepped → Type 0
IsDone Fired = ⊥
IsDone (Blocked _) = ⊥
IsDone (Full _) = ⊥
IsDone Done = ⊤

abbrev pub HasFired : Stepped → Type 0
HasFired Fired = ⊤
HasFired (Blocked _) = ⊥
HasFired (Full _) = ⊥
HasFired Done = ⊥

-- where the answer is that an arc is blocked, this holds of the arc
abbrev pub IfBlocked : Stepped → (ℕ → Type 0) → Type 0
IfBlocked Fired holds = ⊤
IfBlocked (Blocked arc) holds = holds arc
IfBlocked (Full _) holds = ⊤
IfBlocked Done holds = ⊤

-- where the answer is that an arc is full, this holds of the arc
abbrev pub IfFull : Stepped → (ℕ → Type 0) → Type 0
IfFull Fired holds = ⊤
IfFull (Blocked _) holds = ⊤
IfFull (Full arc) holds = holds arc
IfFull Done holds = ⊤

-- one date more, and every hand empty
pub record FiredOnce (before after : WorkStation) : Type 0 where
  pub log : after.log ≡ with_date before.log (slice_index after.log.dates (length before.log.dates))
  pub hands : (k : ℕ) → k < length before.inputs → (input_at after.inputs k).hand ≡ None

-- no date more and nothing put; each empty hand took a token where one was known
pub record OnlyRefilled (old new : List PlainQueue) (before after : WorkStation) : Type 0 where
  pub log : after.log ≡ before.log
  pub outlets : after.outlets ≡ before.outlets
  pub puts : OnlyTakes old new
  pub hands : (k : ℕ) → k < length before.inputs →
      IsRefilled old new (input_at before.inputs k) (input_at after.inputs k)

-- every hand is full, and each outlet that knew of no space has looked; all else is as where hands are only refilled
pub record OnlyLooked (old new : List PlainQueue) (before after : WorkStation) : Type 0 where
  pub refilled : OnlyRefilled old new before (record after { outlets = before.outlets })
  pub full : (k : ℕ) → k < length before.inputs → IsSome (input_at after.inputs k).hand
  pub count : length after.outlets ≡ length before.outlets
  pub looked : (k : ℕ) → k < length before.outlets → HasLooked (outlet_at before.outlets k) (outlet_at after.outlets k)

-- nothing but one turn more
pub record OnlyTurned (old new : List PlainQueue) (before after : WorkStation) : Type 0 where
  pub shelf : new ≡ old
  pub station : after ≡ record before { turns = before.turns + 1 }

-- what changed, by the answer
abbrev pub Did : Stepped → List PlainQueue → List PlainQueue → WorkStation → WorkStation → Type 0
Did Fired old new before after = FiredOnce before after
Did (Blocked _) old new before after = OnlyRefilled old new before after
Did (Full _) old new before after = OnlyLooked old new before after
Did Done old new before after = OnlyTurned old new before after

-- tokens were taken from the queues of the station's own inlets alone, and put on those of its own outlets alone
pub record MovesItsOwn (s : WorkStation) (old new : List PlainQueue) : Type 0 where
  pub count : length new ≡ length old
  pub made : (q : ℕ) → unused_queue (queue_at new q) ≡ unused_queue (queue_at old q)
  pub takes : (q : ℕ) → NoneTakes q s.inputs → (queue_at new q).takes ≡ (queue_at old q).takes
  pub taken : (q : ℕ) → NoneTakes q s.inputs → plain_taken (queue_at new q) ≡ plain_taken (queue_at old q)
  pub puts : (q : ℕ) → NonePuts q s.outlets → (queue_at new q).added ≡ (queue_at old q).added

-- every queue has the tokens that were put on it before, and then those that were put since
abbrev pub Grows : List PlainQueue → List PlainQueue → Type 0
Grows old new = (q : ℕ) → IsPrefix (queue_at old q).added (queue_at new q).added

-- a step of a station moves tokens of its own queues alone and takes no put back, so that every other station of the
-- shelf, where no queue is an input of both or an output of both, keeps what it kept, and can still fire if it could
pub record MovesApart (s : WorkStation) (old new : List PlainQueue) : Type 0 where
  pub grows : Grows old new
  pub own : MovesItsOwn s old new
  pub others : (other : WorkStation) → IsStation other → AreApart s other → IsKept old other → IsKept new other
  pub ready : (other : WorkStation) → AreApart s other → IsReady old other → IsReady new other

-- what a step of the worker's station i does that fires
pub record FiresAt (i : ℕ) (old new : WorkShelf) (before after : WorkStation) : Type 0 where
  pub left : length before.log.dates ≢ jobs before.graph
  pub turns : after.turns ≡ before.turns + 1
  pub same : bare_station after ≡ bare_station before
  pub station : IsStation after
  pub seated : IsSeated new.queues after
  pub stands : StandsAt i new after
  pub did : FiredOnce before after
  pub kept : IsKept old.queues before → IsKept new.queues after
  pub moves : MovesApart before old.queues new.queues
  pub logs : new.logs ≡ slice_set old.logs i after.log
  pub sources : new.sources ≡ old.sources

-- The words for the ends of a station's queues, of whatever kind they are: what was taken, how much is known to come
-- next, what was put, and how much may be put. A shelf is the list of its queues.
use Rattle.std.specs.Prelude.{◌≡◌, ℕ, ◌+◌, ◌^◌, ◌≤◌, ◌<◌, ⊤, Bool, true, false, List, [], ◌∷◌, ◌++◌, Option, None, Some, length}
use mathlib.Core.List.{IsPrefix}
use Rattle.card_queue.specs.Plain.{PlainQueue, plain_taken, plain_waiting}
use Rattle.card_queue.specs.Queue.{IsQueue, IsMet}
use Rattle.room_ring.specs.Put.{RoomPutEnd, room_space}
use Rattle.room_ring.specs.Take.{RoomTakeEnd, room_known}
use Rattle.room_ring.specs.Ends.{IsRoomRing, IsInOrder, IsWithinRoom, IsAllKnown, IsAllSpace}
use Rattle.station_step.specs.declared.ends.Inlet.{Inlet}
use Rattle.station_step.specs.declared.ends.Outlet.{Outlet}
use Rattle.station_step.specs.declared.ends.Inlet.TheVariants as inlet
use Rattle.station_step.specs.declared.ends.Outlet.TheVariants as outlet
use Rattle.station_step.specs.Shelf.{queue_at}

-- the tokens that were taken at an inlet since its queue was made, oldest first
abbrev pub inlet_taken : List PlainQueue → Inlet → List ℕ
inlet_taken shelf (inlet.Ring take) = take.taken
inlet_taken shelf (inlet.Room take) = take.taken
inlet_taken shelf (inlet.Local k) = plain_taken (queue_at shelf k)

-- how many tokens come next at an inlet, as far as it has seen
abbrev pub inlet_ahead : List PlainQueue → Inlet → ℕ
inlet_ahead shelf (inlet.Ring take) = length take.known
inlet_ahead shelf (inlet.Room take) = room_known take
inlet_ahead shelf (inlet.Local k) = length (plain_waiting (queue_at shelf k))

-- the tokens that were put at an outlet since its queue was made, oldest first
abbrev pub outlet_added : List PlainQueue → Outlet → List ℕ
outlet_added shelf (outlet.Ring put) = put.added
outlet_added shelf (outlet.Room put) = put.added
outlet_added shelf (outlet.Local k) = (queue_at shelf k).added

-- how many tokens may be put at an outlet in all
abbrev pub outlet_room : List PlainQueue → Outlet → ℕ
outlet_room shelf (outlet.Ring put) = put.room
outlet_room shelf (outlet.Room put) = 2 ^ 40
outlet_room shelf (outlet.Local k) = (queue_at shelf k).room

-- how often an inlet has looked for a token, which only that of a ring does
abbrev pub inlet_looks : Inlet → ℕ
inlet_looks (inlet.Ring take) = take.looks
inlet_looks (inlet.Room take) = take.loads
inlet_looks (inlet.Local k) = 0

-- how often an outlet has looked for space, which only that of a ring of bounded room does
abbrev pub outlet_looks : Outlet → ℕ
outlet_looks (outlet.Ring put) = 0
outlet_looks (outlet.Room put) = put.loads
outlet_looks (outlet.Local k) = 0

-- an inlet without its tokens and what it has seen: which queue's it is
abbrev pub bare_inlet : Inlet → Inlet
bare_inlet (inlet.Ring take) = inlet.Ring (record take { taken = []; known = []; looks = 0 })
bare_inlet (inlet.Room take) = inlet.Room (record take { taken = []; tail = 0; loads = 0 })
bare_inlet (inlet.Local k) = inlet.Local k

-- an outlet without the tokens put at it and what it has seen: which queue's it is, its initial tokens and its room
abbrev pub bare_outlet : Outlet → Outlet
bare_outlet (outlet.Ring put) = outlet.Ring (record put { added = [] })
bare_outlet (outlet.Room put) = outlet.Room (record put { added = []; head = 0; loads = 0 })
bare_outlet (outlet.Local k) = outlet.Local k

-- an inlet without what it has seen of the tokens that come next
abbrev pub unseen_inlet : Inlet → Inlet
unseen_inlet (inlet.Ring take) = inlet.Ring (record take { known = []; looks = 0 })
unseen_inlet (inlet.Room take) = inlet.Room (record take { tail = 0; loads = 0 })
unseen_inlet (inlet.Local k) = inlet.Local k

-- an outlet without what it has seen of the tokens that were taken
abbrev pub unseen_outlet : Outlet → Outlet
unseen_outlet (outlet.Ring put) = outlet.Ring put
unseen_outlet (outlet.Room put) = outlet.Room (record put { head = 0; loads = 0 })
unseen_outlet (outlet.Local k) = outlet.Local k

-- the number of the shelf's queue from which an inlet takes
abbrev pub inlet_queue : Inlet → Option ℕ
inlet_queue (inlet.Ring take) = None
inlet_queue (inlet.Room take) = None
inlet_queue (inlet.Local k) = Some k

-- the number of the shelf's queue on which an outlet puts
abbrev pub outlet_queue : Outlet → Option ℕ
outlet_queue (outlet.Ring put) = None
outlet_queue (outlet.Room put) = None
outlet_queue (outlet.Local k) = Some k

-- a ring's take from which nothing was taken
abbrev pub IsUntaken : Inlet → Type 0
IsUntaken (inlet.Ring take) = take.taken ≡ []
IsUntaken (inlet.Room take) = take.taken ≡ []
IsUntaken (inlet.Local k) = ⊤

-- a ring's put at which nothing was put
abbrev pub IsUnfilled : Outlet → Type 0
IsUnfilled (outlet.Ring put) = put.added ≡ []
IsUnfilled (outlet.Room put) = put.added ≡ []
IsUnfilled (outlet.Local k) = ⊤

-- whether an inlet is the end of a ring
abbrev pub is_ring_inlet : Inlet → Bool
is_ring_inlet (inlet.Ring take) = true
is_ring_inlet (inlet.Room take) = true
is_ring_inlet (inlet.Local k) = false

-- a token is known to come next at the end of a ring
abbrev pub HasKnown : Inlet → Type 0
HasKnown (inlet.Ring take) = 0 < length take.known
HasKnown (inlet.Room take) = 0 < room_known take
HasKnown (inlet.Local k) = ⊤

-- an inlet that is the end of a ring has looked since, at least once
abbrev pub HasAsked : Inlet → Inlet → Type 0
HasAsked before after = is_ring_inlet before ≡ true → inlet_looks before < inlet_looks after

-- this many more tokens may be put at a ring's put
abbrev pub HasRingRoom : ℕ → Outlet → Type 0
HasRingRoom more (outlet.Ring put) = length put.added + more ≤ put.room
HasRingRoom more (outlet.Room put) = length put.added + more ≤ 2 ^ 40
HasRingRoom more (outlet.Local k) = ⊤

-- an outlet on the shelf has room for a token
abbrev pub HasShelfRoom : List PlainQueue → Outlet → Type 0
HasShelfRoom shelf (outlet.Ring put) = ⊤
HasShelfRoom shelf (outlet.Room put) = ⊤
HasShelfRoom shelf (outlet.Local k) = length (queue_at shelf k).added < (queue_at shelf k).room

-- whether an outlet can lack space, as that of a ring of bounded room alone can
abbrev pub is_bounded : Outlet → Bool
is_bounded (outlet.Ring put) = false
is_bounded (outlet.Room put) = true
is_bounded (outlet.Local k) = false

-- whether an outlet is the end of a ring, which is given each token
abbrev pub is_ring : Outlet → Bool
is_ring (outlet.Ring put) = true
is_ring (outlet.Room put) = true
is_ring (outlet.Local k) = false

-- a ring's put was given this token
abbrev pub HasGot : ℕ → Outlet → Outlet → Type 0
HasGot date (outlet.Ring put) (outlet.Ring later) = later.added ≡ put.added ++ date ∷ []
HasGot date (outlet.Room put) (outlet.Room later) = later.added ≡ put.added ++ date ∷ []
HasGot date (outlet.Local k) (outlet.Local j) = j ≡ k
HasGot date _ _ = ⊥

-- an outlet knows of space for a token: that of a ring of bounded room has seen enough taken, every other has it always
abbrev pub HasSpace : Outlet → Type 0
HasSpace (outlet.Ring put) = ⊤
HasSpace (outlet.Room put) = 0 < room_space put
HasSpace (outlet.Local k) = ⊤

-- an outlet knows of no space, which can be of a ring of bounded room alone
abbrev pub HasNoSpace : Outlet → Type 0
HasNoSpace (outlet.Ring put) = ⊥
HasNoSpace (outlet.Room put) = room_space put ≡ 0
HasNoSpace (outlet.Local k) = ⊥

-- where an outlet knew of no space it has looked once, and nothing else of it changed
pub record HasLooked (before after : Outlet) : Type 0 where
  pub same : unseen_outlet after ≡ unseen_outlet before
  pub stays : HasSpace before → after ≡ before
  pub looks : HasNoSpace before → outlet_looks after ≡ outlet_looks before + 1

-- the outlet and the inlet are the two ends of one ring
abbrev pub AreEnds : Outlet → Inlet → Type 0
AreEnds (outlet.Ring put) (inlet.Ring take) = IsQueue put take
AreEnds (outlet.Room put) (inlet.Room take) = IsRoomRing put take
AreEnds _ _ = ⊥

-- what was taken begins what was put, no more tokens wait than there is room for, all of them are known, and the
-- space is at least the room less their number
pub record AreRoomMet (put : RoomPutEnd) (take : RoomTakeEnd) : Type 0 where
  pub in_order : IsInOrder put take
  pub within : IsWithinRoom put take
  pub known : IsAllKnown put take
  pub space : IsAllSpace put take

-- the two ends of one ring met. Of one whose room is bounded no token is known but by number; of another what was taken
-- at the inlet, and then what is known there, is all that was put at the outlet, in order
abbrev pub AreMet : Outlet → Inlet → Type 0
AreMet (outlet.Ring put) (inlet.Ring take) = IsMet put take
AreMet (outlet.Room put) (inlet.Room take) = AreRoomMet put take
AreMet _ _ = ⊥

-- an inlet knows of the tokens that it knew of, and maybe of more
abbrev pub KnowsMore : Inlet → Inlet → Type 0
KnowsMore (inlet.Ring take) (inlet.Ring later) = IsPrefix take.known later.known
KnowsMore (inlet.Room take) (inlet.Room later) = room_known take ≤ room_known later
KnowsMore _ _ = ⊤

-- an outlet knows of the space that it knew of, and maybe of more
abbrev pub HasMoreSpace : Outlet → Outlet → Type 0
HasMoreSpace (outlet.Room put) (outlet.Room later) = room_space put ≤ room_space later
HasMoreSpace _ _ = ⊤

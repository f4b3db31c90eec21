-- Making the teams: first a queue for each arc, its two ends laid down by station; then the stations, which take them.
use Rattle.std.specs.Prelude.{◌≡◌, ◌≢◌, ℕ, ◌+◌, ◌-◌, ◌^◌, ◌<◌, ◌≤◌, ◌==◌, ⊤, List, [], ◌∷◌, ◌++◌, Option, None, Some, map, length, filter, slice_index, slice_index_or, slice_set}
use Rattle.std.specs.List.{range_with_len}
use Rattle.line_base.specs.declared.event.Parts.{Parts}
use Rattle.line_base.specs.Limits.{most_ring_room}
use Rattle.line_base.specs.Roomy.{RoomyLog}
use Rattle.card_queue.specs.Plain.{PlainQueue}
use Rattle.card_queue.specs.Put.{PutEnd}
use Rattle.card_queue.specs.Take.{TakeEnd}
use Rattle.card_queue.specs.Queue.{IsQueue}
use Rattle.room_ring.specs.Put.{RoomPutEnd, room_space}
use Rattle.room_ring.specs.Take.{RoomTakeEnd, room_known}
use Rattle.room_ring.specs.Ends.{IsRoomRing}
use Rattle.event_graph.specs.Network.{stations, jobs, arc, arc_count, delay, ins, outs}
use Rattle.event_graph.specs.State.{State, log, place}
use Rattle.station_step.specs.declared.ends.Inlet.{Inlet}
use Rattle.station_step.specs.declared.ends.Outlet.{Outlet}
use Rattle.station_step.specs.declared.ends.Inlet.TheVariants as inlet
use Rattle.station_step.specs.declared.ends.Outlet.TheVariants as outlet
use Rattle.station_step.specs.declared.source.Source.{Source}
use Rattle.station_step.specs.Shelf.{WorkShelf, log_on, new_queue}
use Rattle.station_step.specs.Ends.{outlet_queue, IsUntaken, IsUnfilled, HasRingRoom}
use Rattle.station_step.specs.Input.{empty_handed}
use Rattle.station_step.specs.Station.{WorkStation, IsStation, ComeFrom, TakeLater, outlet_at}
use Rattle.station_step.specs.Kept.{IsFresh, IsKept}
use Rattle.line_worker.specs.Share.{worker_of, first_of}
use Rattle.line_worker.specs.Team.{WorkTeam, member}
use Rattle.line_worker.specs.Teams.{team_at, IsOfRoom, AreOfRoom, AreTeams, AreAllMet, HaveBegun}

-- ---- the queue of an arc

-- how many tokens may be put on the ring of arc a: one for each date that the station where it starts has left to make
abbrev pub room_on : Parts → State → ℕ → ℕ
room_on g begun a = jobs g - length (log begun (arc g a).from)

-- the ends of a ring that begins with the tokens on arc a
pub record IsNewRing (g : Parts) (begun : State) (a : ℕ) (put : PutEnd) (take : TakeEnd) : Type 0 where
  pub ends : IsQueue put take
  pub initial : put.initial ≡ place begun a
  pub added : put.added ≡ []
  pub room : put.room ≡ room_on g begun a
  pub taken : take.taken ≡ []
  pub known : take.known ≡ place begun a

-- the ends of a ring of bounded room that begins with the tokens on arc a: all of them are known, and all else is space
pub record IsNewRoom (g : Parts) (begun : State) (a : ℕ) (put : RoomPutEnd) (take : RoomTakeEnd) : Type 0 where
  pub ends : IsRoomRing put take
  pub initial : put.initial ≡ place begun a
  pub added : put.added ≡ []
  pub few : room_on g begun a ≤ 2 ^ 40
  pub taken : take.taken ≡ []
  pub known : length (place begun a) ≤ room_known take
  pub space : room_space put + length (place begun a) ≡ put.ring.room

-- the room is 1 to 10,000, and a ring with room for its arc's tokens at the start and that many more takes those that
-- the arc has now
pub record FitsRoom (room : ℕ) (g : Parts) (begun : State) : Type 0 where
  pub some : 1 ≤ room
  pub most : room ≤ most_ring_room
  pub fits : (a : ℕ) → a < arc_count g → length (place begun a) ≤ (arc g a).tokens + room

-- where a room is given, it is such a room
abbrev pub MayHold : Option ℕ → Parts → State → Type 0
MayHold None g begun = ⊤
MayHold (Some room) g begun = FitsRoom room g begun

-- the tokens with which queue q of a shelf begins
abbrev pub first_tokens : List (List ℕ) → ℕ → List ℕ
first_tokens firsts q = slice_index_or firsts q []

-- a queue of the shelf that begins with the tokens on arc a, with the same number at both ends
pub record IsNewPlain (begun : State) (firsts : List (List ℕ)) (a q r : ℕ) : Type 0 where
  pub same : r ≡ q
  pub there : q < length firsts
  pub tokens : first_tokens firsts q ≡ place begun a

abbrev pub AreNewEnds : Parts → State → ℕ → Outlet → Inlet → Type 0
AreNewEnds g begun a (outlet.Ring put) (inlet.Ring take) = IsNewRing g begun a put take
AreNewEnds g begun a (outlet.Room put) (inlet.Room take) = IsNewRoom g begun a put take
AreNewEnds g begun a _ _ = ⊥

-- the ends of a ring of this kind that begins with the tokens on arc a
pub record HasRing (room : Option ℕ) (g : Parts) (begun : State) (a : ℕ) (out : Outlet) (into : Inlet) : Type 0 where
  pub ends : AreNewEnds g begun a out into
  pub kind : IsOfRoom room (arc g a).tokens out

abbrev pub HasPlain : State → List (List ℕ) → ℕ → Outlet → Inlet → Type 0
HasPlain begun firsts a (outlet.Local q) (inlet.Local r) = IsNewPlain begun firsts a q r
HasPlain begun firsts a _ _ = ⊥

-- ---- the ends by station

-- for each station its outlets and its inlets, in the order of the arcs, for each worker the tokens with which the
-- queues of its shelf begin and the arcs whose queues they are, and the kind of the rings
pub record QueueEnds : Type 0 where
  pub outlets : List (List Outlet)
  pub inlets : List (List Inlet)
  pub shelves : List (List (List ℕ))
  pub arcs : List (List ℕ)
  pub room : Option ℕ

abbrev pub outlets_at : QueueEnds → ℕ → List Outlet
outlets_at ends t = slice_index_or ends.outlets t []

abbrev pub inlets_at : QueueEnds → ℕ → List Inlet
inlets_at ends t = slice_index_or ends.inlets t []

abbrev pub firsts_at : QueueEnds → ℕ → List (List ℕ)
firsts_at ends w = slice_index_or ends.shelves w []

-- the arcs of the queues of worker w's shelf, and that of queue q
abbrev pub arcs_at : QueueEnds → ℕ → List ℕ
arcs_at ends w = slice_index_or ends.arcs w []

abbrev pub arc_in : QueueEnds → ℕ → ℕ → ℕ
arc_in ends w q = slice_index (arcs_at ends w) q

-- where the tokens of arc a come from: the station where it starts, by its number from the first on
abbrev pub source_of : Parts → ℕ → ℕ → Source
source_of g first a = record { station = (arc g a).from - first; delay = delay g a }

-- a shelf whose queues begin with these tokens; on each a token may be put for each job
abbrev pub new_shelf : Parts → List (List ℕ) → List PlainQueue
new_shelf g firsts = map (new_queue (jobs g)) firsts

-- the shelf of worker w
abbrev pub shelf_at : Parts → QueueEnds → ℕ → List PlainQueue
shelf_at g ends w = new_shelf g (firsts_at ends w)

-- the shelf of worker w, without its logs
abbrev pub bare_shelf : Parts → ℕ → QueueEnds → ℕ → WorkShelf
bare_shelf g worker_count ends w = record {
  logs = [];
  sources = map (source_of g (first_of worker_count (stations g) w)) (arcs_at ends w);
  queues = shelf_at g ends w;
}

-- each queue of worker w's shelf is that of an arc out of one of its stations, and its tokens come from there, later by
-- the delay of the arc
pub record HaveSources (g : Parts) (worker_count : ℕ) (ends : QueueEnds) (w : ℕ) : Type 0 where
  pub count : length (arcs_at ends w) ≡ length (firsts_at ends w)
  pub exist : (q : ℕ) → q < length (arcs_at ends w) → arc_in ends w q < arc_count g
  pub own : (q : ℕ) → q < length (arcs_at ends w) →
      worker_of worker_count (stations g) (arc g (arc_in ends w q)).from ≡ w
  pub come : (t i : ℕ) → t < stations g → worker_of worker_count (stations g) t ≡ w →
      t ≡ first_of worker_count (stations g) w + i →
      ComeFrom i (map (delay g) (outs g t)) (bare_shelf g worker_count ends w) (outlets_at ends t)
  pub later : (t i : ℕ) → t < stations g → worker_of worker_count (stations g) t ≡ w →
      t ≡ first_of worker_count (stations g) w + i →
      TakeLater (map (delay g) (ins g t)) (bare_shelf g worker_count ends w).sources
      (map empty_handed (inlets_at ends t))

-- a shelf can be made of these: the queues are not too many, and none is too long
pub record MayShelve (g : Parts) (firsts : List (List ℕ)) : Type 0 where
  pub few : length firsts < 2 ^ 32
  pub small : (q : ℕ) → q < length firsts → length (first_tokens firsts q) + jobs g < 2 ^ 32

module _ {X : Type 0} where
  -- the lists with one more element at the end of list k
  abbrev pub with_one : List (List X) → ℕ → X → List (List X)
  with_one lists k x = slice_set lists k (slice_index_or lists k [] ++ x ∷ [])

-- the ends with those of one more arc
abbrev pub with_ends : QueueEnds → ℕ → ℕ → Outlet → Inlet → QueueEnds
with_ends ends from to out into =
    record ends { outlets = with_one ends.outlets from out; inlets = with_one ends.inlets to into }

-- of the first n arcs, those into station t, and those out of it
unfoldable pub first_ins : Parts → ℕ → ℕ → List ℕ
first_ins g n t = filter (λ a. (arc g a).to == t) (range_with_len 0 n)

unfoldable pub first_outs : Parts → ℕ → ℕ → List ℕ
first_outs g n t = filter (λ a. (arc g a).from == t) (range_with_len 0 n)

-- the ends of arc a: as many arcs come before it at its station as stand before it there
abbrev pub outlet_of : Parts → QueueEnds → ℕ → Outlet
outlet_of g ends a = outlet_at (outlets_at ends (arc g a).from) (length (first_outs g a (arc g a).from))

abbrev pub inlet_of : Parts → QueueEnds → ℕ → Inlet
inlet_of g ends a = slice_index_or (inlets_at ends (arc g a).to) (length (first_ins g a (arc g a).to)) (inlet.Local 0)

-- the workers that have the stations where arc a starts and where it ends
abbrev pub putter : Parts → ℕ → ℕ → ℕ
putter g worker_count a = worker_of worker_count (stations g) (arc g a).from

abbrev pub taker : Parts → ℕ → ℕ → ℕ
taker g worker_count a = worker_of worker_count (stations g) (arc g a).to

-- arc a has its ends: those of a ring between two workers, else of a queue on the worker's shelf
pub record HasEnds (g : Parts) (begun : State) (worker_count : ℕ) (ends : QueueEnds) (a : ℕ) : Type 0 where
  pub ring : putter g worker_count a ≢ taker g worker_count a →
      HasRing ends.room g begun a (outlet_of g ends a) (inlet_of g ends a)
  pub shelf : putter g worker_count a ≡ taker g worker_count a →
      HasPlain begun (firsts_at ends (putter g worker_count a)) a (outlet_of g ends a) (inlet_of g ends a)

-- queue q of worker w's shelf is that of one of the first n arcs
pub record IsListed (g : Parts) (worker_count : ℕ) (ends : QueueEnds) (n w q : ℕ) : Type 0 where
  pub before : arc_in ends w q < n
  pub own : putter g worker_count (arc_in ends w q) ≡ w
  pub queue : outlet_queue (outlet_of g ends (arc_in ends w q)) ≡ Some q

-- the first n arcs have their ends, and no two of them a queue of one shelf
pub record AreLaid (g : Parts) (begun : State) (worker_count : ℕ) (ends : QueueEnds) (n : ℕ) : Type 0 where
  pub outlet_lists : length ends.outlets ≡ stations g
  pub inlet_lists : length ends.inlets ≡ stations g
  pub shelves : length ends.shelves ≡ worker_count
  pub outlets : (t : ℕ) → t < stations g → length (outlets_at ends t) ≡ length (first_outs g n t)
  pub inlets : (t : ℕ) → t < stations g → length (inlets_at ends t) ≡ length (first_ins g n t)
  pub queues : (w : ℕ) → length (firsts_at ends w) ≤ n
  pub small : (w q : ℕ) → q < length (firsts_at ends w) → length (first_tokens (firsts_at ends w) q) + jobs g < 2 ^ 32
  pub arc_lists : length ends.arcs ≡ worker_count
  pub arcs : (w : ℕ) → length (arcs_at ends w) ≡ length (firsts_at ends w)
  pub listed : (w q : ℕ) → q < length (firsts_at ends w) → IsListed g worker_count ends n w q
  pub each : (a : ℕ) → a < n → HasEnds g begun worker_count ends a
  pub apart : (a b q : ℕ) → a < n → b < n → putter g worker_count a ≡ putter g worker_count b →
      outlet_queue (outlet_of g ends a) ≡ Some q → outlet_queue (outlet_of g ends b) ≡ Some q → a ≡ b

-- ---- the stations, which take the ends

-- the ends without those of station t
abbrev pub without : QueueEnds → ℕ → QueueEnds
without ends t = record ends { outlets = slice_set ends.outlets t []; inlets = slice_set ends.inlets t [] }

-- these are new ends for the arcs of station t, with room for the dates that it has left to make
pub record AreFit (g : Parts) (begun : State) (t : ℕ) (outlets : List Outlet) (inlets : List Inlet) : Type 0 where
  pub an_outlet_each : length outlets ≡ length (outs g t)
  pub an_inlet_each : length inlets ≡ length (ins g t)
  pub room : (k : ℕ) → k < length outlets → HasRingRoom (jobs g - length (log begun t)) (outlet_at outlets k)
  pub unfilled : (k : ℕ) → k < length outlets → IsUnfilled (outlet_at outlets k)
  pub untaken : (k : ℕ) → k < length inlets → IsUntaken (slice_index_or inlets k (inlet.Local 0))

-- station t with these ends, which goes on from its log
pub record IsNewStation (g : Parts) (begun : State) (t : ℕ) (out : List Outlet) (into : List Inlet) (s : WorkStation)
    : Type 0 where
  pub graph : s.graph ≡ g
  pub number : s.number ≡ t
  pub inputs : s.inputs ≡ map empty_handed into
  pub outlets : s.outlets ≡ out
  pub dates : s.log.dates ≡ log begun t
  pub made : s.made ≡ length (log begun t)
  pub turns : s.turns ≡ 0
  pub station : IsStation s
  pub kept : (shelf : List PlainQueue) → IsFresh shelf s → IsKept shelf s

-- copies of the logs of the stations from the first on, each with room for a date of each job
pub record AreNewLogs (g : Parts) (begun : State) (first : ℕ) (logs : List RoomyLog) : Type 0 where
  pub dates : (i : ℕ) → i < length logs → (log_on logs i).dates ≡ log begun (first + i)
  pub room : (i : ℕ) → i < length logs → (log_on logs i).room ≡ jobs g
  pub few : (i : ℕ) → i < length logs → length (log_on logs i).dates ≤ jobs g

-- the ends that have not been taken from station t on, and the shelves from worker w on
pub record SameStationsFrom (t : ℕ) (old new : QueueEnds) : Type 0 where
  pub outlet_lists : length new.outlets ≡ length old.outlets
  pub inlet_lists : length new.inlets ≡ length old.inlets
  pub outlets : (u : ℕ) → t ≤ u → outlets_at new u ≡ outlets_at old u
  pub inlets : (u : ℕ) → t ≤ u → inlets_at new u ≡ inlets_at old u

pub record SameShelvesFrom (w : ℕ) (old new : QueueEnds) : Type 0 where
  pub count : length new.shelves ≡ length old.shelves
  pub shelves : (v : ℕ) → w ≤ v → firsts_at new v ≡ firsts_at old v
  pub arc_count : length new.arcs ≡ length old.arcs
  pub arcs : (v : ℕ) → w ≤ v → arcs_at new v ≡ arcs_at old v

-- these are the stations from the first on, with the ends that were laid for them
pub record AreNewStations (g : Parts) (begun : State) (first : ℕ) (ends : QueueEnds) (made : List WorkStation)
    : Type 0 where
  pub each : (i : ℕ) → i < length made →
      IsNewStation g begun (first + i) (outlets_at ends (first + i)) (inlets_at ends (first + i)) (member made i)

-- worker w's stations, and its shelf
pub record IsNewTeam (g : Parts) (begun : State) (worker_count : ℕ) (ends : QueueEnds) (w : ℕ) (team : WorkTeam)
    : Type 0 where
  pub size : first_of worker_count (stations g) w + length team.stations ≡ first_of worker_count (stations g) (w + 1)
  pub stations : AreNewStations g begun (first_of worker_count (stations g) w) ends team.stations
  pub shelf : team.shelf ≡ shelf_at g ends w

-- from station t on every station has its ends still
pub record AreFitFrom (g : Parts) (begun : State) (t : ℕ) (ends : QueueEnds) : Type 0 where
  pub outlet_lists : length ends.outlets ≡ stations g
  pub inlet_lists : length ends.inlets ≡ stations g
  pub each : (u : ℕ) → t ≤ u → u < stations g → AreFit g begun u (outlets_at ends u) (inlets_at ends u)

-- a team for each worker
abbrev pub AreNewTeams : Parts → State → ℕ → QueueEnds → List WorkTeam → Type 0
AreNewTeams g begun worker_count ends teams =
    (w : ℕ) → w < length teams → IsNewTeam g begun worker_count ends w (team_at teams w)

-- the teams of a new line, one for each worker
pub record AreAllNew (room : Option ℕ) (g : Parts) (begun : State) (teams : List WorkTeam) : Type 0 where
  pub teams_are : AreTeams g begun teams
  pub rooms_are : AreOfRoom room g teams
  pub met : AreAllMet g teams
  pub begun_are : HaveBegun g begun teams

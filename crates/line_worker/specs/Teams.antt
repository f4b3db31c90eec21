-- The teams of a line: each station and each arc of the graph among them.
use Rattle.std.specs.Prelude.{◌≡◌, ◌≢◌, ℕ, ◌+◌, ◌-◌, ◌<◌, ◌≤◌, ◌==◌, ⊤, List, [], ◌++◌, Option, None, Some, map, drop, length, slice_index_or, option_to_list}
use Rattle.std.specs.List.{position_or_len, range_with_len}
use mathlib.Core.List.{IsPrefix}
use Rattle.line_base.specs.declared.event.Parts.{Parts}
use Rattle.card_queue.specs.Plain.{PlainQueue, plain_tokens}
use Rattle.card_queue.specs.Put.{put_tokens}
use Rattle.room_ring.specs.Put.{room_tokens}
use Rattle.event_graph.specs.Network.{stations, arc_count, arc, ins, outs}
use Rattle.event_graph.specs.State.{State, log, place}
use Rattle.station_step.specs.declared.ends.Inlet.{Inlet}
use Rattle.station_step.specs.declared.ends.Outlet.{Outlet}
use Rattle.station_step.specs.declared.ends.Inlet.TheVariants as inlet
use Rattle.station_step.specs.declared.ends.Outlet.TheVariants as outlet
use Rattle.station_step.specs.declared.input.Input.{Input}
use Rattle.station_step.specs.Shelf.{queue_at}
use Rattle.station_step.specs.Ends.{inlet_taken, inlet_ahead, AreEnds, AreRoomMet}
use Rattle.station_step.specs.Input.{input_at}
use Rattle.station_step.specs.Station.{WorkStation, outlet_at}
use Rattle.line_worker.specs.Share.{worker_of, first_of}
use Rattle.line_worker.specs.Team.{WorkTeam, IsTeam, member}

-- ---- stations

-- the team of worker w
abbrev pub team_at : List WorkTeam → ℕ → WorkTeam
team_at teams w = slice_index_or teams w (record { stations = []; shelf = [] })

-- the worker that has station t
abbrev pub owner_of : Parts → List WorkTeam → ℕ → ℕ
owner_of g teams t = worker_of (length teams) (stations g) t

-- station t of the graph, and the shelf of its worker
abbrev pub station_of : Parts → List WorkTeam → ℕ → WorkStation
station_of g teams t =
    member (team_at teams (owner_of g teams t)).stations
    (t - first_of (length teams) (stations g) (owner_of g teams t))

abbrev pub shelf_of : Parts → List WorkTeam → ℕ → List PlainQueue
shelf_of g teams t = (team_at teams (owner_of g teams t)).shelf

-- ---- arcs

-- where a number stands in a list
abbrev pub index_in : List ℕ → ℕ → ℕ
index_in xs a = position_or_len (λ x. x == a) xs

-- the input at which arc a ends, and the outlet at which it starts
abbrev pub input_on : Parts → List WorkTeam → ℕ → Input
input_on g teams a =
    input_at (station_of g teams (arc g a).to).inputs (index_in (ins g (arc g a).to) a)

abbrev pub outlet_on : Parts → List WorkTeam → ℕ → Outlet
outlet_on g teams a =
    outlet_at (station_of g teams (arc g a).from).outlets (index_in (outs g (arc g a).from) a)

-- the tokens that the queue of an outlet began with
abbrev pub outlet_initial : List PlainQueue → Outlet → List ℕ
outlet_initial shelf (outlet.Ring put) = put.initial
outlet_initial shelf (outlet.Room put) = put.initial
outlet_initial shelf (outlet.Local q) = (queue_at shelf q).initial

-- every token of the queue of an outlet in order of putting, the initial ones first
abbrev pub outlet_tokens : List PlainQueue → Outlet → List ℕ
outlet_tokens shelf (outlet.Ring put) = put_tokens put
outlet_tokens shelf (outlet.Room put) = room_tokens put
outlet_tokens shelf (outlet.Local q) = plain_tokens (queue_at shelf q)

-- the outlet and the inlet are those of one queue of a shelf
abbrev pub ShareQueue : Outlet → Inlet → Type 0
ShareQueue (outlet.Local q) (inlet.Local r) = q ≡ r
ShareQueue _ _ = ⊥

-- arc a has one queue, which began with the place of the arc: a ring between two workers, else one of the worker's
-- shelf
pub record IsJoined (g : Parts) (begun : State) (teams : List WorkTeam) (a : ℕ) : Type 0 where
  pub ring : owner_of g teams (arc g a).from ≢ owner_of g teams (arc g a).to →
      AreEnds (outlet_on g teams a) (input_on g teams a).inlet
  pub shelf : owner_of g teams (arc g a).from ≡ owner_of g teams (arc g a).to →
      ShareQueue (outlet_on g teams a) (input_on g teams a).inlet
  pub initial : outlet_initial (shelf_of g teams (arc g a).from) (outlet_on g teams a) ≡ place begun a

-- where a room is given, the ring has the room of this many tokens and this much more; else its room has no bound
abbrev pub IsOfRoom : Option ℕ → ℕ → Outlet → Type 0
IsOfRoom None tokens (outlet.Ring put) = ⊤
IsOfRoom (Some room) tokens (outlet.Room put) = put.ring.room ≡ tokens + room
IsOfRoom _ _ _ = ⊥

-- ---- all of them

-- a team for each worker, with its stations, and a queue for each arc
pub record AreTeams (g : Parts) (begun : State) (teams : List WorkTeam) : Type 0 where
  pub some : 1 ≤ length teams
  pub sizes : (w : ℕ) → w < length teams →
      first_of (length teams) (stations g) w + length (team_at teams w).stations ≡
      first_of (length teams) (stations g) (w + 1)
  pub each : (w : ℕ) → w < length teams → IsTeam g begun (first_of (length teams) (stations g) w) (team_at teams w)
  pub joined : (a : ℕ) → a < arc_count g → IsJoined g begun teams a

-- each ring between two workers is of this kind, for the tokens with which the arc starts
abbrev pub AreOfRoom : Option ℕ → Parts → List WorkTeam → Type 0
AreOfRoom room g teams = (a : ℕ) → a < arc_count g → owner_of g teams (arc g a).from ≢ owner_of g teams (arc g a).to →
    IsOfRoom room (arc g a).tokens (outlet_on g teams a)

-- in a ring of bounded room no more tokens wait than there is room for, and the space is at least the room less their
-- number
abbrev pub IfRoomMet : Outlet → Inlet → Type 0
IfRoomMet (outlet.Room put) (inlet.Room take) = AreRoomMet put take
IfRoomMet _ _ = ⊤

-- what was taken from a queue begins what was put, and all the rest is known to come next; its ends stand over these
-- shelves
pub record IsQueueMet (from to : List PlainQueue) (out : Outlet) (into : Inlet) : Type 0 where
  pub in_order : IsPrefix (inlet_taken to into) (outlet_tokens from out)
  pub known : length (outlet_tokens from out) ≤ length (inlet_taken to into) + inlet_ahead to into
  pub room : IfRoomMet out into

-- the queue of arc a was met
abbrev pub IsMetOn : Parts → List WorkTeam → ℕ → Type 0
IsMetOn g teams a =
    IsQueueMet (shelf_of g teams (arc g a).from) (shelf_of g teams (arc g a).to) (outlet_on g teams a)
    (input_on g teams a).inlet

-- every queue was met
abbrev pub AreAllMet : Parts → List WorkTeam → Type 0
AreAllMet g teams = (a : ℕ) → a < arc_count g → IsMetOn g teams a

-- no station has gone on from the state with which the line began, or made a turn
pub record HaveBegun (g : Parts) (begun : State) (teams : List WorkTeam) : Type 0 where
  pub logs : (t : ℕ) → t < stations g → (station_of g teams t).log.dates ≡ log begun t
  pub turns : (t : ℕ) → t < stations g → (station_of g teams t).turns ≡ 0

-- ---- the state of a line

-- the token in the hand that arc a fills, then those that were put into its queue and not taken
abbrev pub place_of : Parts → List WorkTeam → ℕ → List ℕ
place_of g teams a =
    let input = input_on g teams a in
    let taken = inlet_taken (shelf_of g teams (arc g a).to) input.inlet in
    option_to_list input.hand ++
    drop (length taken) (outlet_tokens (shelf_of g teams (arc g a).from) (outlet_on g teams a))

-- log t is that of station t, and place a is the token in the hand, then those that were put and not taken
unfoldable pub state_among : Parts → List WorkTeam → State
state_among g teams = record {
  logs = map (λ t. (station_of g teams t).log.dates) (range_with_len 0 (stations g));
  places = map (place_of g teams) (range_with_len 0 (arc_count g));
}

-- Which outlets have space: those of rings without bound and of queues on a shelf have it always, and that of a ring of
-- bounded room where no more tokens wait on its arc than those with which the arc starts. The first station in the
-- order has it so.
use Rattle.std.proofs.Common.{◌≡◌, ◌≢◌, ℕ, ◌+◌, ◌<◌, ◌≤◌, List, Option, Some, None, length, get_or, ap, ◌∙◌, subst, arith, ⊎_elim}
use Rattle.std.specs.Prelude.{IfSome, option_to_list}
use Rattle.std.proofs.lemmas.Bool.{cases_eq}
use Rattle.std.proofs.lemmas.List.{length-drop}
use Rattle.line_base.specs.declared.event.Parts.{Parts}
use Rattle.card_queue.specs.Plain.{PlainQueue}
use Rattle.room_ring.specs.Put.{room_tokens, room_space}
use Rattle.event_graph.specs.Network.{stations, jobs, arc, arc_count, outs, IsGraph}
use Rattle.event_graph.specs.State.{State, log, place}
use Rattle.event_graph.specs.Firing.{CanFire}
use Rattle.event_graph.proofs.ArcNumbers.{All-outs}
use Rattle.line_core.specs.Consistent.{all_tokens, IsConsistent}
use Rattle.line_core.proofs.ArcTokens.{length-all_tokens}
use Rattle.line_core.proofs.Order.{GoesUp, first_station, no_more_dates, fewer_dates}
use Rattle.station_step.specs.declared.ends.Inlet.{Inlet}
use Rattle.station_step.specs.declared.ends.Outlet.{Outlet}
use Rattle.station_step.specs.declared.ends.Inlet.TheVariants as inlet
use Rattle.station_step.specs.declared.ends.Outlet.TheVariants as outlet
use Rattle.station_step.specs.Ends.{inlet_taken, AreEnds, HasSpace}
use Rattle.station_step.specs.Station.{outlet_at}
use Rattle.line_worker.specs.Team.{WorkTeam}
use Rattle.line_worker.specs.Teams.{owner_of, station_of, shelf_of, input_on, outlet_on, outlet_tokens, ShareQueue, IsOfRoom, AreOfRoom, AreTeams, IsQueueMet, AreAllMet, state_among}
use Rattle.line_worker.proofs.TeamStates.{outlets-many, outlet_on-is, length-place}

-- ---- by the kinds of ends

shared-space : (o : Outlet) (i : Inlet) → ShareQueue o i → HasSpace o
shared-space (outlet.Ring put) (inlet.Ring take) share = absurd share
shared-space (outlet.Ring put) (inlet.Room take) share = absurd share
shared-space (outlet.Ring put) (inlet.Local q) share = absurd share
shared-space (outlet.Room put) (inlet.Ring take) share = absurd share
shared-space (outlet.Room put) (inlet.Room take) share = absurd share
shared-space (outlet.Room put) (inlet.Local q) share = absurd share
shared-space (outlet.Local q) (inlet.Ring take) share = absurd share
shared-space (outlet.Local q) (inlet.Room take) share = absurd share
shared-space (outlet.Local q) (inlet.Local r) share = tt

free-space : (tokens : ℕ) (o : Outlet) → IsOfRoom None tokens o → HasSpace o
free-space tokens (outlet.Ring put) kind = tt
free-space tokens (outlet.Room put) kind = absurd kind
free-space tokens (outlet.Local q) kind = absurd kind

module _ (room tokens : ℕ) (from to : List PlainQueue) where
  room-space : (o : Outlet) (i : Inlet) → IsOfRoom (Some room) tokens o → AreEnds o i → IsQueueMet from to o i → 1 ≤ room → length (outlet_tokens from o) ≤ length (inlet_taken to i) + tokens → HasSpace o
  room-space (outlet.Ring put) (inlet.Ring take) kind ends met some few = absurd kind
  room-space (outlet.Ring put) (inlet.Room take) kind ends met some few = absurd kind
  room-space (outlet.Ring put) (inlet.Local q) kind ends met some few = absurd kind
  room-space (outlet.Room put) (inlet.Ring take) kind ends met some few = absurd ends
  room-space (outlet.Room put) (inlet.Room take) kind ends met some few =
      let size : put.ring.room ≡ tokens + room = kind in
      let left : length (room_tokens put) ≤ length take.taken + tokens = few in
      let space : 0 < room_space put = omega (arith, met.room.space, size, some, left) in
      space
  room-space (outlet.Room put) (inlet.Local q) kind ends met some few = absurd ends
  room-space (outlet.Local p) (inlet.Ring take) kind ends met some few = absurd kind
  room-space (outlet.Local p) (inlet.Room take) kind ends met some few = absurd kind
  room-space (outlet.Local p) (inlet.Local q) kind ends met some few = absurd kind

  room-within : (o : Outlet) (i : Inlet) → IsOfRoom (Some room) tokens o → AreEnds o i → IsQueueMet from to o i → length (outlet_tokens from o) ≤ length (inlet_taken to i) + (tokens + room)
  room-within (outlet.Ring put) (inlet.Ring take) kind ends met = absurd kind
  room-within (outlet.Ring put) (inlet.Room take) kind ends met = absurd kind
  room-within (outlet.Ring put) (inlet.Local q) kind ends met = absurd kind
  room-within (outlet.Room put) (inlet.Ring take) kind ends met = absurd ends
  room-within (outlet.Room put) (inlet.Room take) kind ends met =
      let size : put.ring.room ≡ tokens + room = kind in
      let within : length (room_tokens put) ≤ length take.taken + (tokens + room) = omega (arith, met.room.within, size) in
      within
  room-within (outlet.Room put) (inlet.Local q) kind ends met = absurd ends
  room-within (outlet.Local p) (inlet.Ring take) kind ends met = absurd kind
  room-within (outlet.Local p) (inlet.Room take) kind ends met = absurd kind
  room-within (outlet.Local p) (inlet.Local q) kind ends met = absurd kind

hand-le : (hand : Option ℕ) → length (option_to_list hand) ≤ 1
hand-le None = omega arith
hand-le (Some date) = omega arith

-- ---- among teams

module _ (g : Parts) (begun : State) (teams : List WorkTeam) (sound : IsGraph g) (some : 1 ≤ stations g) (are : AreTeams g begun teams) where
  -- the outlets of a station, by their arcs
  pub spaces : (t : ℕ) → t < stations g → ((a : ℕ) → a < arc_count g → (arc g a).from ≡ t → HasSpace (outlet_on g teams a)) → (k : ℕ) → k < length (station_of g teams t).outlets → HasSpace (outlet_at (station_of g teams t).outlets k)
  spaces t there each k low =
      let within : k < length (outs g t) = omega (arith, low, outlets-many g begun teams sound some are t there) in
      let at = All-outs g t k 0 within in
      subst HasSpace (outlet_on-is g begun teams sound some are t k within) (each (get_or (outs g t) k 0) at.0 at.1)

  -- that of an arc inside one worker
  pub inside-space : (a : ℕ) → a < arc_count g → owner_of g teams (arc g a).from ≡ owner_of g teams (arc g a).to → HasSpace (outlet_on g teams a)
  inside-space a listed same = shared-space (outlet_on g teams a) (input_on g teams a).inlet ((are.joined a listed).shelf same)

  -- that of a ring without bound
  pub free-spaces : AreOfRoom None g teams → (a : ℕ) → a < arc_count g → HasSpace (outlet_on g teams a)
  free-spaces kinds a listed =
      ⊎_elim
      (inside-space a listed)
      (λ apart. free-space (arc g a).tokens (outlet_on g teams a) (kinds a listed apart))
      (cases_eq (owner_of g teams (arc g a).from) (owner_of g teams (arc g a).to))

  module _ (met : AreAllMet g teams) where
    -- that of an arc on which no more tokens wait than at the start
    some-spaces : (room : ℕ) → 1 ≤ room → AreOfRoom (Some room) g teams → (a : ℕ) → a < arc_count g → length (place (state_among g teams) a) ≤ (arc g a).tokens → HasSpace (outlet_on g teams a)
    some-spaces room more kinds a listed few =
        let from = shelf_of g teams (arc g a).from in
        let to = shelf_of g teams (arc g a).to in
        let o = outlet_on g teams a in
        let i = (input_on g teams a).inlet in
        ⊎_elim
        (inside-space a listed)
        (λ apart.
        room-space room (arc g a).tokens from to o i (kinds a listed apart) ((are.joined a listed).ring apart) (met a listed) more
        (omega (arith, few, length-place g begun teams sound some are a listed)))
        (cases_eq (owner_of g teams (arc g a).from) (owner_of g teams (arc g a).to))

    pub few-spaces : (room : Option ℕ) → IfSome room (λ n. 1 ≤ n) → AreOfRoom room g teams → (a : ℕ) → a < arc_count g → length (place (state_among g teams) a) ≤ (arc g a).tokens → HasSpace (outlet_on g teams a)
    few-spaces None more kinds a listed few = free-spaces kinds a listed
    few-spaces (Some room) more kinds a listed few = some-spaces room more kinds a listed few

    -- on an arc between two workers no more tokens wait than there is room for, and one in the hand
    pub place-within : (room : ℕ) → AreOfRoom (Some room) g teams → (a : ℕ) → a < arc_count g → owner_of g teams (arc g a).from ≢ owner_of g teams (arc g a).to → length (place (state_among g teams) a) ≤ (arc g a).tokens + room + 1
    place-within room kinds a listed apart =
        let from = shelf_of g teams (arc g a).from in
        let to = shelf_of g teams (arc g a).to in
        let input = input_on g teams a in
        let within = room-within room (arc g a).tokens from to (outlet_on g teams a) input.inlet (kinds a listed apart) ((are.joined a listed).ring apart) (met a listed) in
        omega (arith, within, length-place g begun teams sound some are a listed, hand-le input.hand)

-- ---- the first station in the order

-- where some station isn't done, one can fire that has no more tokens on any arc out of it than at the start: the first
-- by its number of dates, then by its place
pub first_can_fire : (g : Parts) (s : State) (places : List ℕ) → IsGraph g → GoesUp g places → IsConsistent g s → (u : ℕ) → u < stations g → length (log s u) < jobs g → (t : ℕ) × CanFire g s t × ((a : ℕ) → a < arc_count g → (arc g a).from ≡ t → length (place s a) ≤ (arc g a).tokens)
first_can_fire g s places graph up c u there undone =
    let first = first_station g s places (omega arith) in
    let t = first.0 in
    let left = λ (a : ℕ) (known : a < arc_count g).
    ap length (c.places_are_left a known) ∙ length-drop (length (log s (arc g a).to)) (all_tokens g s.logs a) in
    let has_token : (a : ℕ) → a < arc_count g → (arc g a).to ≡ t → 0 < length (place s a) =
    λ a known ends.
    let from = (arc g a).from in
    let order = first.2 from (graph.starts_exist a known) in
    let here = ap (λ v. length (log s v)) ends in
    ⊎_elim
    (λ none.
    let above : get_or places from 0 < get_or places t 0 = subst (λ v. get_or places from 0 < get_or places v 0) ends (up a known none) in
    omega (arith, left a known, length-all_tokens g s a, here, fewer_dates s places t from order above))
    (λ some. omega (arith, left a known, length-all_tokens g s a, here, some, no_more_dates s places t from order))
    (cases_eq (arc g a).tokens 0) in
    let few : (a : ℕ) → a < arc_count g → (arc g a).from ≡ t → length (place s a) ≤ (arc g a).tokens =
    λ a known starts.
    let order = first.2 (arc g a).to (graph.ends_exist a known) in
    omega (arith, left a known, length-all_tokens g s a, ap (λ v. length (log s v)) starts, no_more_dates s places t (arc g a).to order) in
    (t, record { exists = first.1; more = omega (arith, no_more_dates s places t u (first.2 u there)); tokens = has_token }, few)

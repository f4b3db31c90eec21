-- Teams that have worked are teams of the same line.
use Rattle.std.proofs.Common.{◌≡◌, ℕ, ◌+◌, ◌-◌, ◌<◌, ◌≤◌, List, ◌++◌, Option, Some, None, take, drop, length, refl, ap, ◌∙◌, sym, subst, arith, length-append}
use Rattle.std.proofs.lemmas.List.{take-append-drop, take-take, take_all, length-take}
use Rattle.line_base.specs.declared.event.Parts.{Parts}
use Rattle.card_queue.specs.Plain.{PlainQueue, plain_tokens}
use Rattle.event_graph.specs.Network.{stations, arc, arc_count, ins, outs, IsGraph}
use Rattle.event_graph.specs.State.{State}
use Rattle.station_step.specs.declared.ends.Inlet.{Inlet}
use Rattle.station_step.specs.declared.ends.Outlet.{Outlet}
use Rattle.station_step.specs.declared.ends.Inlet.TheVariants as inlet
use Rattle.station_step.specs.declared.ends.Outlet.TheVariants as outlet
use Rattle.station_step.specs.Shelf.{queue_at}
use Rattle.station_step.specs.Ends.{bare_inlet, bare_outlet, AreEnds}
use Rattle.station_step.specs.Station.{WorkStation}
use Rattle.station_step.proofs.OwnQueues.{input-same, outlet-same}
use Rattle.line_worker.specs.Share.{worker_of, first_of}
use Rattle.line_worker.specs.Team.{WorkTeam, IsTeam, member}
use Rattle.line_worker.specs.Teams.{team_at, owner_of, station_of, shelf_of, index_in, input_on, outlet_on, outlet_initial, ShareQueue, IsJoined, IsOfRoom, AreOfRoom, AreTeams, IsQueueMet, IsMetOn}
use Rattle.line_worker.specs.Work.{dates_of, HasWorked, IsSameShelf, TeamWorked, TeamsWorked}
use Rattle.line_worker.proofs.Share.{first-le, next-above, worker_number-below}
use Rattle.line_worker.proofs.TeamSteps.{inputs-same, outlets-same}

-- ---- work after work

pub idle : (s : WorkStation) → HasWorked s s
idle s = record { same = refl; kept = take_all (dates_of s) s.log.dates (omega arith); turned = omega arith; steps = omega arith }

pub dates-le : (before after : WorkStation) → HasWorked before after → dates_of before ≤ dates_of after
dates-le before after worked = omega (arith, ap length worked.kept, length-take (dates_of before) after.log.dates)

pub then_worked : (s t u : WorkStation) → HasWorked s t → HasWorked t u → HasWorked s u
then_worked s t u first next = record {
  same = next.same ∙ first.same;
  kept =
      sym (take-take (dates_of s) (dates_of t) u.log.dates (dates-le s t first))
      ∙ ap (take (dates_of s)) next.kept
      ∙ first.kept;
  turned = omega (arith, first.turned, next.turned);
  steps = omega (arith, first.steps, next.steps);
}

pub idle_shelf : (shelf : List PlainQueue) → IsSameShelf shelf shelf
idle_shelf shelf = record { count = refl; queues = λ q. refl }

pub then_shelf : (s t u : List PlainQueue) → IsSameShelf s t → IsSameShelf t u → IsSameShelf s u
then_shelf s t u first next = record { count = next.count ∙ first.count; queues = λ q. next.queues q ∙ first.queues q }

pub idle_team : (team : WorkTeam) → TeamWorked team team
idle_team team = record { count = refl; shelf = idle_shelf team.shelf; each = λ i low. idle (member team.stations i) }

pub then_team : (s t u : WorkTeam) → TeamWorked s t → TeamWorked t u → TeamWorked s u
then_team s t u first next = record {
  count = next.count ∙ first.count;
  shelf = then_shelf s.shelf t.shelf u.shelf first.shelf next.shelf;
  each = λ i low.
      then_worked (member s.stations i) (member t.stations i) (member u.stations i) (first.each i low) (next.each i (omega (arith, low, first.count)));
}

-- ---- the ends of an arc

as_itself : {A : Type 0} → (A → A) × (A → A)
as_itself = (λ a. a, λ a. a)

-- without their tokens they are those of one ring, or of one queue of a shelf, exactly where they are with them
bare_ends : (o : Outlet) (i : Inlet) → ((AreEnds o i → AreEnds (bare_outlet o) (bare_inlet i)) × (AreEnds (bare_outlet o) (bare_inlet i) → AreEnds o i)) × ((ShareQueue o i → ShareQueue (bare_outlet o) (bare_inlet i)) × (ShareQueue (bare_outlet o) (bare_inlet i) → ShareQueue o i))
bare_ends (outlet.Ring put) (inlet.Ring take) = (as_itself, as_itself)
bare_ends (outlet.Ring put) (inlet.Room take) = (as_itself, as_itself)
bare_ends (outlet.Ring put) (inlet.Local q) = (as_itself, as_itself)
bare_ends (outlet.Room put) (inlet.Ring take) = (as_itself, as_itself)
bare_ends (outlet.Room put) (inlet.Room take) = (as_itself, as_itself)
bare_ends (outlet.Room put) (inlet.Local q) = (as_itself, as_itself)
bare_ends (outlet.Local q) (inlet.Ring take) = (as_itself, as_itself)
bare_ends (outlet.Local q) (inlet.Room take) = (as_itself, as_itself)
bare_ends (outlet.Local q) (inlet.Local r) = (as_itself, as_itself)

initial-bare : (shelf : List PlainQueue) (o : Outlet) → outlet_initial shelf (bare_outlet o) ≡ outlet_initial shelf o
initial-bare shelf (outlet.Ring put) = refl
initial-bare shelf (outlet.Room put) = refl
initial-bare shelf (outlet.Local q) = refl

initial-shelf : (old new : List PlainQueue) (o : Outlet) → IsSameShelf old new → outlet_initial new o ≡ outlet_initial old o
initial-shelf old new (outlet.Ring put) same = refl
initial-shelf old new (outlet.Room put) same = refl
initial-shelf old new (outlet.Local q) same = ap (λ (queue : PlainQueue). queue.initial) (same.queues q)

-- ends that are the same without their tokens
module _ (o o' : Outlet) (i i' : Inlet) (out_same : bare_outlet o' ≡ bare_outlet o) (in_same : bare_inlet i' ≡ bare_inlet i) where
  ends-same : AreEnds o i → AreEnds o' i'
  ends-same ends =
      (bare_ends o' i').0.1 (
      subst (λ (p : Outlet). AreEnds p (bare_inlet i')) (sym out_same) (
      subst (λ (j : Inlet). AreEnds (bare_outlet o) j) (sym in_same) ((bare_ends o i).0.0 ends)))

  queue-same : ShareQueue o i → ShareQueue o' i'
  queue-same share =
      (bare_ends o' i').1.1 (
      subst (λ (p : Outlet). ShareQueue p (bare_inlet i')) (sym out_same) (
      subst (λ (j : Inlet). ShareQueue (bare_outlet o) j) (sym in_same) ((bare_ends o i).1.0 share)))

initial-same : (old new : List PlainQueue) (o o' : Outlet) → IsSameShelf old new → bare_outlet o' ≡ bare_outlet o → outlet_initial new o' ≡ outlet_initial old o
initial-same old new o o' shelf same =
    sym (initial-bare new o') ∙ ap (outlet_initial new) same ∙ initial-bare new o ∙ initial-shelf old new o shelf

bare_room : (room : Option ℕ) (tokens : ℕ) (o : Outlet) → (IsOfRoom room tokens o → IsOfRoom room tokens (bare_outlet o)) × (IsOfRoom room tokens (bare_outlet o) → IsOfRoom room tokens o)
bare_room None tokens (outlet.Ring put) = as_itself
bare_room None tokens (outlet.Room put) = as_itself
bare_room None tokens (outlet.Local q) = as_itself
bare_room (Some room) tokens (outlet.Ring put) = as_itself
bare_room (Some room) tokens (outlet.Room put) = as_itself
bare_room (Some room) tokens (outlet.Local q) = as_itself

room-same : (room : Option ℕ) (tokens : ℕ) (o o' : Outlet) → bare_outlet o' ≡ bare_outlet o → IsOfRoom room tokens o → IsOfRoom room tokens o'
room-same room tokens o o' same is = (bare_room room tokens o').1 (subst (IsOfRoom room tokens) (sym same) ((bare_room room tokens o).0 is))

-- ---- all teams

module _ (g : Parts) (begun : State) (old new : List WorkTeam) (some : 1 ≤ stations g) (are : AreTeams g begun old) (worked : TeamsWorked old new) where
  -- what holds of the worker of each station
  worker_number-same : (t : ℕ) → owner_of g new t ≡ owner_of g old t
  worker_number-same t = ap (λ n. worker_of n (stations g) t) worked.count

  team-of : (t : ℕ) → t < stations g → TeamWorked (team_at old (owner_of g old t)) (team_at new (owner_of g new t))
  team-of t there =
      subst (λ w. TeamWorked (team_at old (owner_of g old t)) (team_at new w)) (sym (worker_number-same t)) (
      worked.each (owner_of g old t) (worker_number-below (length old) (stations g) are.some some t there))

  pub shelf-worked : (t : ℕ) → t < stations g → IsSameShelf (shelf_of g old t) (shelf_of g new t)
  shelf-worked t there = (team-of t there).shelf

  pub station-worked : (t : ℕ) → t < stations g → HasWorked (station_of g old t) (station_of g new t)
  station-worked t there =
      let w = owner_of g old t in
      let first = first_of (length old) (stations g) w in
      let low = first-le (length old) (stations g) are.some some t in
      let high = next-above (length old) (stations g) are.some some t in
      let w_there = worker_number-below (length old) (stations g) are.some some t there in
      let same : first_of (length new) (stations g) (owner_of g new t) ≡ first =
      ap (λ n. first_of n (stations g) (worker_of n (stations g) t)) worked.count in
      let within : t - first < length (team_at old w).stations = omega (arith, are.sizes w w_there) in
      subst (λ n. HasWorked (station_of g old t) (member (team_at new (owner_of g new t)).stations (t - n))) (sym same) (
      (team-of t there).each (t - first) within)

  outlet-worked : (a : ℕ) → (arc g a).from < stations g → bare_outlet (outlet_on g new a) ≡ bare_outlet (outlet_on g old a)
  outlet-worked a there =
      let s = station_of g old (arc g a).from in
      let t = station_of g new (arc g a).from in
      outlet-same s.outlets t.outlets (index_in (outs g (arc g a).from) a) (outlets-same s t (station-worked (arc g a).from there).same)

  inlet-worked : (a : ℕ) → (arc g a).to < stations g → bare_inlet (input_on g new a).inlet ≡ bare_inlet (input_on g old a).inlet
  inlet-worked a there =
      let s = station_of g old (arc g a).to in
      let t = station_of g new (arc g a).to in
      input-same s.inputs t.inputs (index_in (ins g (arc g a).to) a) (inputs-same s t (station-worked (arc g a).to there).same)

  joined-worked : IsGraph g → (a : ℕ) → a < arc_count g → IsJoined g begun new a
  joined-worked sound a listed =
      let from_there = sound.starts_exist a listed in
      let to_there = sound.ends_exist a listed in
      let was = are.joined a listed in
      let out_same = outlet-worked a from_there in
      let in_same = inlet-worked a to_there in
      record {
        ring = λ apart. ends-same _ _ _ _ out_same in_same (was.ring (λ same. apart (worker_number-same (arc g a).from ∙ same ∙ sym (worker_number-same (arc g a).to))));
        shelf = λ same. queue-same _ _ _ _ out_same in_same (was.shelf (sym (worker_number-same (arc g a).from) ∙ same ∙ worker_number-same (arc g a).to));
        initial =
            initial-same (shelf_of g old (arc g a).from) (shelf_of g new (arc g a).from) (outlet_on g old a) (outlet_on g new a) (shelf-worked (arc g a).from from_there) out_same
            ∙ was.initial;
      }

  -- and each ring is of the kind that it was
  pub rooms-worked : IsGraph g → (room : Option ℕ) → AreOfRoom room g old → AreOfRoom room g new
  rooms-worked sound room was a listed apart =
      room-same room (arc g a).tokens (outlet_on g old a) (outlet_on g new a) (outlet-worked a (sound.starts_exist a listed)) (
      was a listed (λ same. apart (worker_number-same (arc g a).from ∙ same ∙ sym (worker_number-same (arc g a).to))))

  -- teams that have worked, each with its own stations still, are the teams of the line
  pub teams-worked : IsGraph g → ((w : ℕ) → w < length old → IsTeam g begun (first_of (length old) (stations g) w) (team_at new w)) → AreTeams g begun new
  teams-worked sound each = record {
    some = omega (arith, are.some, worked.count);
    sizes = λ w low.
        let low' : w < length old = omega (arith, low, worked.count) in
        let First : ℕ → ℕ → ℕ = λ n v. first_of n (stations g) v in
        ap (λ n. First n w + length (team_at new w).stations) worked.count
        ∙ ap (λ n. First (length old) w + n) (worked.each w low').count
        ∙ are.sizes w low'
        ∙ ap (λ n. First n (w + 1)) (sym worked.count);
    each = λ w low.
        subst (λ n. IsTeam g begun (first_of n (stations g) w) (team_at new w)) (sym worked.count) (
        each w (omega (arith, low, worked.count)));
    joined = joined-worked sound;
  }

-- ---- an arc inside one worker

pub shared-is_met : (shelf : List PlainQueue) (o : Outlet) (i : Inlet) → ShareQueue o i → IsQueueMet shelf shelf o i
shared-is_met shelf (outlet.Ring put) i share = absurd share
shared-is_met shelf (outlet.Room put) i share = absurd share
shared-is_met shelf (outlet.Local q) (inlet.Ring take) share = absurd share
shared-is_met shelf (outlet.Local q) (inlet.Room take) share = absurd share
shared-is_met shelf (outlet.Local q) (inlet.Local r) share =
    let queue = queue_at shelf r in
    let tokens = plain_tokens queue in
    let all : take queue.takes tokens ++ drop queue.takes tokens ≡ plain_tokens (queue_at shelf q) =
    take-append-drop queue.takes tokens ∙ ap (λ k. plain_tokens (queue_at shelf k)) (sym share) in
    record {
      in_order = (drop queue.takes tokens, all);
      known = omega (arith, ap length all, length-append (take queue.takes tokens) (drop queue.takes tokens));
      room = tt;
    }

-- its queue is met at every moment
pub local_is_met : (g : Parts) (begun : State) (teams : List WorkTeam) (a : ℕ) → IsJoined g begun teams a → owner_of g teams (arc g a).from ≡ owner_of g teams (arc g a).to → IsMetOn g teams a
local_is_met g begun teams a joined same =
    let o = outlet_on g teams a in
    let i = (input_on g teams a).inlet in
    subst (λ w. IsQueueMet (team_at teams w).shelf (shelf_of g teams (arc g a).to) o i) (sym same) (
    shared-is_met (shelf_of g teams (arc g a).to) o i (joined.shelf same))

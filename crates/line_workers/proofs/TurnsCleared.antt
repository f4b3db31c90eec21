-- Workers whose stations count their turns from 0 again: nothing else is changed.
use Rattle.std.proofs.Common.{◌≡◌, ℕ, zero, suc, ◌-◌, ◌<◌, ◌≤◌, List, [], ◌∷◌, Option, map, length, refl, ap, ◌∙◌, sym, subst, arith, zero-add}
use Rattle.std.specs.Prelude.{IfSome}
use Rattle.std.specs.List.{range_with_len, All}
use Rattle.std.proofs.lemmas.List.{length-map, get_or-map}
use Rattle.std.proofs.lemmas.List.FromFn.{fill_by_all, length-map-range_with_len, get_or-map-range_with_len}
use Rattle.std.proofs.lemmas.Simd.{map-map}
use Rattle.line_base.specs.Limits.{most_workers}
use Rattle.line_base.specs.declared.event.Parts.{Parts}
use Rattle.line_base.specs.Roomy.{RoomyLog}
use Rattle.event_graph.specs.Network.{stations, arc, arc_count, ins, outs}
use Rattle.event_graph.specs.State.{State}
use Rattle.live_check.specs.Order.{LiveGraph}
use Rattle.station_step.specs.declared.ends.Inlet.{Inlet}
use Rattle.station_step.specs.declared.ends.Outlet.{Outlet}
use Rattle.station_step.specs.declared.input.Input.{Input}
use Rattle.station_step.specs.Ends.{AreEnds}
use Rattle.station_step.specs.Input.{input_at}
use Rattle.station_step.specs.Station.{WorkStation, outlet_at}
use Rattle.line_worker.specs.Share.{worker_of, first_of}
use Rattle.line_worker.specs.Team.{WorkTeam, member}
use Rattle.line_worker.specs.Teams.{team_at, owner_of, station_of, shelf_of, index_in, input_on, outlet_on, outlet_initial, ShareQueue, IsJoined, IsOfRoom, AreOfRoom, AreAllMet, state_among}
use Rattle.line_worker.specs.Worker.{LineWorker, IsWorker, teams_of}
use Rattle.line_worker.specs.Work.{turns_of, TeamsWorked}
use Rattle.line_workers.specs.Meeting.{AreStill}
use Rattle.line_worker.specs.Workers.{worker_at, no_worker, live_of, graph_of, begun_of, room_of, AreWorkers, AreSameWorkers}
use Rattle.line_workers.specs.Line.{StandsIn}
use Rattle.line_workers.specs.OfWorkers.{line_of, turns_among, AreAtRest}
use Rattle.line_worker.specs.Cleared.{cleared_station, cleared_team, cleared_worker}
use Rattle.line_workers.specs.Gather.{logs_in, Gathers}
use Rattle.line_core.specs.Consistent.{firing_count}
use Rattle.line_worker.proofs.Cleared.{member-cleared, worker_cleared}
use Rattle.line_workers.proofs.AllWorkers.{workers-same}

-- ---- all teams

team_at-cleared : (teams : List WorkTeam) (w : ℕ) → team_at (map cleared_team teams) w ≡ cleared_team (team_at teams w)
team_at-cleared [] w = refl
team_at-cleared (t ∷ teams) zero = refl
team_at-cleared (t ∷ teams) (suc w) = team_at-cleared teams w

module _ (g : Parts) (teams : List WorkTeam) where
  worker_number-cleared : (t : ℕ) → owner_of g (map cleared_team teams) t ≡ owner_of g teams t
  worker_number-cleared t = ap (λ n. worker_of n (stations g) t) (length-map teams cleared_team)

  pub station-cleared : (t : ℕ) → station_of g (map cleared_team teams) t ≡ cleared_station (station_of g teams t)
  station-cleared t =
      let w = owner_of g teams t in
      let i = t - first_of (length teams) (stations g) w in
      ap (λ n. member (team_at (map cleared_team teams) (worker_of n (stations g) t)).stations (t - first_of n (stations g) (worker_of n (stations g) t))) (length-map teams cleared_team)
      ∙ ap (λ (team : WorkTeam). member team.stations i) (team_at-cleared teams w)
      ∙ member-cleared (team_at teams w).stations i

  shelf-cleared : (t : ℕ) → shelf_of g (map cleared_team teams) t ≡ shelf_of g teams t
  shelf-cleared t =
      ap (λ w. (team_at (map cleared_team teams) w).shelf) (worker_number-cleared t)
      ∙ ap (λ (team : WorkTeam). team.shelf) (team_at-cleared teams (owner_of g teams t))

  outlet-cleared : (a : ℕ) → outlet_on g (map cleared_team teams) a ≡ outlet_on g teams a
  outlet-cleared a = ap (λ (s : WorkStation). outlet_at s.outlets (index_in (outs g (arc g a).from) a)) (station-cleared (arc g a).from)

  input-cleared : (a : ℕ) → input_on g (map cleared_team teams) a ≡ input_on g teams a
  input-cleared a = ap (λ (s : WorkStation). input_at s.inputs (index_in (ins g (arc g a).to) a)) (station-cleared (arc g a).to)

  joined_cleared : (begun : State) (a : ℕ) → IsJoined g begun teams a → IsJoined g begun (map cleared_team teams) a
  joined_cleared begun a is =
      let out = outlet-cleared a in
      let into = ap (λ (i : Input). i.inlet) (input-cleared a) in
      record {
        ring = λ apart.
            subst (λ (o : Outlet). AreEnds o (input_on g (map cleared_team teams) a).inlet) (sym out) (
            subst (λ (i : Inlet). AreEnds (outlet_on g teams a) i) (sym into) (
            is.ring (λ same. apart (worker_number-cleared (arc g a).from ∙ same ∙ sym (worker_number-cleared (arc g a).to)))));
        shelf = λ same.
            subst (λ (o : Outlet). ShareQueue o (input_on g (map cleared_team teams) a).inlet) (sym out) (
            subst (λ (i : Inlet). ShareQueue (outlet_on g teams a) i) (sym into) (
            is.shelf (sym (worker_number-cleared (arc g a).from) ∙ same ∙ worker_number-cleared (arc g a).to)));
        initial =
            ap (outlet_initial (shelf_of g (map cleared_team teams) (arc g a).from)) out
            ∙ ap (λ shelf. outlet_initial shelf (outlet_on g teams a)) (shelf-cleared (arc g a).from)
            ∙ is.initial;
      }

  rooms_cleared : (room : Option ℕ) → AreOfRoom room g teams → AreOfRoom room g (map cleared_team teams)
  rooms_cleared room are a listed apart =
      subst (IsOfRoom room (arc g a).tokens) (sym (outlet-cleared a)) (
      are a listed (λ same. apart (worker_number-cleared (arc g a).from ∙ same ∙ sym (worker_number-cleared (arc g a).to))))

-- ---- all workers

-- a line has no more workers than a run may have
pub workers-few : (workers : List LineWorker) → AreWorkers workers → length workers ≤ most_workers
workers-few workers are =
    let first : 0 < length workers = omega (arith, are.some) in
    omega (arith, (are.each 0 first).few, are.worker_count 0 first)

module _ (workers : List LineWorker) where
  pub teams-cleared : teams_of (map cleared_worker workers) ≡ map cleared_team (teams_of workers)
  teams-cleared =
      map-map (λ (c : LineWorker). c.team) cleared_worker workers ∙ sym (map-map cleared_team (λ (c : LineWorker). c.team) workers)

  module _ (are : AreWorkers workers) where
    at : (w : ℕ) → w < length workers → worker_at (map cleared_worker workers) w ≡ cleared_worker (worker_at workers w)
    at w low = get_or-map cleared_worker workers w no_worker no_worker low

    first : 0 < length workers
    first = omega (arith, are.some)

    pub live-cleared : live_of (map cleared_worker workers) ≡ live_of workers
    live-cleared = ap (λ (c : LineWorker). c.live) (at 0 first)

    begun-cleared : begun_of (map cleared_worker workers) ≡ begun_of workers
    begun-cleared = ap (λ (c : LineWorker). c.begun) (at 0 first)

    pub room-cleared : room_of (map cleared_worker workers) ≡ room_of workers
    room-cleared = ap (λ (c : LineWorker). c.room) (at 0 first)

    pub workers_cleared : AreWorkers (map cleared_worker workers)
    workers_cleared =
        let many = length-map workers cleared_worker in
        let within = λ (w : ℕ) (low : w < length (map cleared_worker workers)). (let h : w < length workers = omega (arith, low, many) in h) in
        record {
          some = omega (arith, are.some, many);
          each = λ w low. subst IsWorker (sym (at w (within w low))) (worker_cleared (worker_at workers w) (are.each w (within w low)));
          worker_count = λ w low. ap (λ (c : LineWorker). c.worker_count) (at w (within w low)) ∙ are.worker_count w (within w low) ∙ sym many;
          numbers = λ w low. ap (λ (c : LineWorker). c.worker_number) (at w (within w low)) ∙ are.numbers w (within w low);
          lives = λ w low. ap (λ (c : LineWorker). c.live) (at w (within w low)) ∙ are.lives w (within w low) ∙ sym live-cleared;
          begun = λ w low. ap (λ (c : LineWorker). c.begun) (at w (within w low)) ∙ are.begun w (within w low) ∙ sym begun-cleared;
          joined =
              subst (λ (l : LiveGraph). (a : ℕ) → a < arc_count l.graph → IsJoined l.graph (begun_of (map cleared_worker workers)) (teams_of (map cleared_worker workers)) a) (sym live-cleared) (
              subst (λ b. (a : ℕ) → a < arc_count (graph_of workers) → IsJoined (graph_of workers) b (teams_of (map cleared_worker workers)) a) (sym begun-cleared) (
              subst (λ (ts : List WorkTeam). (a : ℕ) → a < arc_count (graph_of workers) → IsJoined (graph_of workers) (begun_of workers) ts a) (sym teams-cleared) (
              λ a listed. joined_cleared (graph_of workers) (teams_of workers) (begun_of workers) a (are.joined a listed))));
          kinds = λ w low. ap (λ (c : LineWorker). c.room) (at w (within w low)) ∙ are.kinds w (within w low) ∙ sym room-cleared;
          some_room = subst (λ (r : Option ℕ). IfSome r (λ n. 1 ≤ n)) (sym room-cleared) are.some_room;
          rooms =
              subst (λ (l : LiveGraph). AreOfRoom (room_of (map cleared_worker workers)) l.graph (teams_of (map cleared_worker workers))) (sym live-cleared) (
              subst (λ r. AreOfRoom r (graph_of workers) (teams_of (map cleared_worker workers))) (sym room-cleared) (
              subst (λ (ts : List WorkTeam). AreOfRoom (room_of workers) (graph_of workers) ts) (sym teams-cleared) (
              rooms_cleared (graph_of workers) (teams_of workers) (room_of workers) are.rooms)));
        }

-- ---- a meeting after that

module _ (workers : List LineWorker) (are : AreWorkers workers) (new : List LineWorker) (same : AreSameWorkers (map cleared_worker workers) new) (worked : TeamsWorked (teams_of (map cleared_worker workers)) (teams_of new)) (still : AreStill (graph_of workers) (teams_of (map cleared_worker workers)) (teams_of new)) (met : AreAllMet (graph_of workers) (teams_of new)) (made : ℕ) (made_is : made ≡ firing_count (state_among (graph_of new) (teams_of new))) where
  abbrev g : Parts
  g = graph_of workers

  many : length new ≡ length workers
  many = same.count ∙ length-map workers cleared_worker

  some : 0 < length (map cleared_worker workers)
  some = omega (arith, are.some, length-map workers cleared_worker)

  pub live-gathered : live_of new ≡ live_of workers
  live-gathered = ap (λ (c : LineWorker). c.live) (same.each 0 some).frame ∙ live-cleared workers are

  log-gathered : (t : ℕ) → t < stations (graph_of workers) → (station_of (graph_of workers) (teams_of new) t).log ≡ (station_of (graph_of workers) (teams_of workers) t).log
  log-gathered t there =
      still.logs t there
      ∙ ap (λ (ts : List WorkTeam). (station_of g ts t).log) (teams-cleared workers)
      ∙ ap (λ (s : WorkStation). s.log) (station-cleared g (teams_of workers) t)

  turns-gathered : (t : ℕ) → t < stations (graph_of workers) → turns_of (station_of (graph_of workers) (teams_of new) t) ≡ 0
  turns-gathered t there =
      still.turns t there
      ∙ ap (λ (ts : List WorkTeam). turns_of (station_of g ts t)) (teams-cleared workers)
      ∙ ap turns_of (station-cleared g (teams_of workers) t)

  logs-here : (state_among g (teams_of new)).logs ≡ (state_among g (teams_of workers)).logs
  unfolding state_among
  logs-here =
      fill_by_all (λ t. (station_of g (teams_of workers) t).log.dates) (map (λ t. (station_of g (teams_of new) t).log.dates) (range_with_len 0 (stations g))) (stations g) []
      (length-map-range_with_len (λ t. (station_of g (teams_of new) t).log.dates) 0 (stations g))
      (λ t there.
      get_or-map-range_with_len (λ u. (station_of g (teams_of new) u).log.dates) 0 (stations g) t t [] there (zero-add t)
      ∙ ap (λ (l : RoomyLog). l.dates) (log-gathered t there))

  pub logs-gathered : (line_of new made).state.logs ≡ logs_in workers
  logs-gathered = ap (λ (l : LiveGraph). (state_among l.graph (teams_of new)).logs) live-gathered ∙ logs-here

  no-turns : All (λ turns. turns ≡ 0) (turns_among (graph_of new) (teams_of new))
  no-turns =
      subst (λ (l : LiveGraph). All (λ turns. turns ≡ 0) (turns_among l.graph (teams_of new))) (sym live-gathered) (
      λ t d low.
      let U : ℕ → ℕ = λ u. turns_of (station_of g (teams_of new) u) in
      let there : t < stations g = omega (arith, low, length-map-range_with_len U 0 (stations g)) in
      get_or-map-range_with_len U 0 (stations g) t t d there (zero-add t) ∙ turns-gathered t there)

  pub gathered_at_rest : AreAtRest new made
  gathered_at_rest = record {
    whole = workers-same (map cleared_worker workers) (workers_cleared workers are) new same worked;
    few = omega (arith, many, workers-few workers are);
    met = subst (λ (l : LiveGraph). AreAllMet l.graph (teams_of new)) (sym live-gathered) met;
    pace = (omega (arith, made_is), λ t d low. omega (arith, no-turns t d low));
  }

  pub gathered_stands : StandsIn (room_of workers) (live_of workers) (line_of new made).state (length workers) (line_of new made)
  gathered_stands = record {
    live_is = live-gathered;
    state_is = refl;
    workers_are = many;
    room_is = ap (λ (c : LineWorker). c.room) (same.each 0 some).frame ∙ room-cleared workers are;
    made_is = made_is;
    no_turns = no-turns;
  }

-- ---- all of it

pub workers_of_line : (live : LiveGraph) (workers lent : List LineWorker) → AreWorkers workers → live ≡ live_of workers → lent ≡ map cleared_worker workers → AreWorkers lent × (live ≡ live_of lent)
workers_of_line live workers lent are made_for is = (
  subst AreWorkers (sym is) (workers_cleared workers are),
  made_for ∙ sym (live-cleared workers are) ∙ ap live_of (sym is),
)

pub gathers : (live : LiveGraph) (workers lent new : List LineWorker) (made : ℕ) → AreWorkers workers → live ≡ live_of workers → lent ≡ map cleared_worker workers → AreSameWorkers lent new → TeamsWorked (teams_of lent) (teams_of new) → AreStill live.graph (teams_of lent) (teams_of new) → AreAllMet live.graph (teams_of new) → made ≡ firing_count (state_among (graph_of new) (teams_of new)) → Gathers live workers new made
gathers live workers lent new made are made_for lent_is same worked still met made_is =
    let same' = subst (λ (l : List LineWorker). AreSameWorkers l new) lent_is same in
    let worked' = subst (λ (l : List LineWorker). TeamsWorked (teams_of l) (teams_of new)) lent_is worked in
    let still' = subst (λ (l : LiveGraph). AreStill l.graph (teams_of (map cleared_worker workers)) (teams_of new)) made_for (subst (λ (l : List LineWorker). AreStill live.graph (teams_of l) (teams_of new)) lent_is still) in
    let met' = subst (λ (l : LiveGraph). AreAllMet l.graph (teams_of new)) made_for met in
    let there : Gathers (live_of workers) workers new made = record {
      rest = gathered_at_rest workers are new same' worked' still' met' made made_is;
      logs = logs-gathered workers are new same' worked' still' met' made made_is;
      stands = gathered_stands workers are new same' worked' still' met' made made_is;
    } in
    subst (λ (l : LiveGraph). Gathers l workers new made) (sym made_for) there

-- the workers after the meeting are those of the line
pub workers_met : (live : LiveGraph) (workers lent new : List LineWorker) → AreWorkers workers → live ≡ live_of workers → lent ≡ map cleared_worker workers → AreSameWorkers lent new → TeamsWorked (teams_of lent) (teams_of new) → AreWorkers new × (length new ≤ most_workers)
workers_met live workers lent new are made_for lent_is same worked =
    let whole = workers-same lent (workers_of_line live workers lent are made_for lent_is).0 new same worked in
    (whole, workers-few new whole)

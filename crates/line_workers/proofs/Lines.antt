-- A line at rest stands for a reached state; a new one for the state that it was made from.
use Rattle.std.proofs.Common.{◌≡◌, ℕ, ◌+◌, ◌-◌, ◌<◌, ◌≤◌, List, [], Option, length, zero-add, ap, ◌∙◌, sym, subst, arith}
use Rattle.std.specs.List.{All}
use Rattle.std.proofs.lemmas.List.FromFn.{fill_by_all, length-map-range_with_len, get_or-map-range_with_len}
use Rattle.line_base.specs.declared.event.Parts.{Parts}
use Rattle.event_graph.specs.Network.{stations, jobs, arc}
use Rattle.event_graph.specs.State.{State, log}
use Rattle.event_graph.specs.Reached.{Reached}
use Rattle.live_check.specs.Order.{LiveGraph, IsRanked}
use Rattle.line_core.specs.Consistent.{state_of, IsConsistent, IsFinished, firing_count}
use Rattle.line_core.proofs.Consistency.{reached_is_consistent}
use Rattle.line_core.proofs.Runs.{is_reached}
use Rattle.line_core.proofs.LastFirings.{state_of-logs}
use Rattle.line_worker.specs.Share.{worker_of, first_of}
use Rattle.line_worker.specs.Teams.{station_of, state_among, AreOfRoom, AreAllMet}
use Rattle.line_worker.specs.Worker.{LineWorker, teams_of}
use Rattle.line_worker.specs.Work.{dates_of, turns_of, AllDone}
use Rattle.line_worker.specs.Workers.{worker_at, live_of, graph_of, begun_of, AreWorkers}
use Rattle.line_setup.specs.NewWorkers.{AreNewWorkers}
use Rattle.line_workers.specs.Line.{IsWithinRooms, IsLine, StandsIn}
use Rattle.line_workers.specs.OfWorkers.{line_of, turns_among, AreAtRest}
use Rattle.line_worker.proofs.TeamStates.{stands_for_reached, state_among-is, log-among}
use Rattle.line_worker.proofs.OutletSpace.{place-within}
use Rattle.line_workers.proofs.AllWorkers.{ranked, workers_are_teams, graph-same, worker_there, worker_number-is, seat_there, seated, of_seat}
use Rattle.line_base.specs.Limits.{most_workers}

-- ---- at rest

module _ (workers : List LineWorker) (are : AreWorkers workers) (met : AreAllMet (graph_of workers) (teams_of workers)) where
  ranks : IsRanked (live_of workers)
  ranks = ranked workers are

  first : 0 < length workers
  first = omega (arith, are.some)

  pub rest_is_reached : Reached (graph_of workers) (state_among (graph_of workers) (teams_of workers))
  rest_is_reached =
      stands_for_reached (graph_of workers) (begun_of workers) (teams_of workers) ranks.sound ranks.limits.some_station (workers_are_teams workers are) met (live_of workers).ranks ranks (are.each 0 first).reached

  pub rest_is_of_logs : state_among (graph_of workers) (teams_of workers) ≡ state_of (graph_of workers) (state_among (graph_of workers) (teams_of workers)).logs
  rest_is_of_logs =
      state_among-is (graph_of workers) (begun_of workers) (teams_of workers) ranks.sound ranks.limits.some_station (workers_are_teams workers are) met (live_of workers).ranks ranks (are.each 0 first).reached

  pub rest-log : (t : ℕ) → t < stations (graph_of workers) → log (state_among (graph_of workers) (teams_of workers)) t ≡ (station_of (graph_of workers) (teams_of workers) t).log.dates
  rest-log = log-among (graph_of workers) (begun_of workers) (teams_of workers) ranks.sound ranks.limits.some_station (workers_are_teams workers are)

pub within_rooms : (workers : List LineWorker) (made : ℕ) → AreWorkers workers → AreAllMet (graph_of workers) (teams_of workers) → IsWithinRooms (line_of workers made)
within_rooms workers made are met room is a listed between =
    let g = graph_of workers in
    let r = ranked workers are in
    place-within g (begun_of workers) (teams_of workers) r.sound r.limits.some_station (workers_are_teams workers are) met room
    (subst (λ (n : Option ℕ). AreOfRoom n g (teams_of workers)) is are.rooms)
    a
    listed
    (λ same.
    between (
    sym (worker_number-is workers are (arc g a).from (r.sound.starts_exist a listed))
    ∙ same
    ∙ worker_number-is workers are (arc g a).to (r.sound.ends_exist a listed)))

pub at_rest_is_line : (workers : List LineWorker) (made : ℕ) → AreAtRest workers made → IsLine (line_of workers made)
at_rest_is_line workers made rest =
    let r = ranked workers rest.whole in
    record {
      ranked = r;
      reached = is_reached (graph_of workers) (state_among (graph_of workers) (teams_of workers)) r.sound r.limits (rest_is_reached workers rest.whole rest.met);
      pace = rest.pace;
      within = within_rooms workers made rest.whole rest.met;
    }

-- ---- a new line

module _ (live : LiveGraph) (begun : State) (worker_count : ℕ) (room : Option ℕ) (workers : List LineWorker) (made : ℕ) (new : AreNewWorkers live begun worker_count room workers) (reached : Reached live.graph begun) (few : worker_count ≤ most_workers) (made_is : made ≡ firing_count begun) where
  abbrev g : Parts
  g = live.graph

  is : IsConsistent g begun
  is = reached_is_consistent g begun reached

  met_here : AreAllMet (graph_of workers) (teams_of workers)
  met_here = subst (λ (l : LiveGraph). AreAllMet l.graph (teams_of workers)) (sym new.live_is) new.met

  state_here : state_among (graph_of workers) (teams_of workers) ≡ state_among g (teams_of workers)
  state_here = ap (λ (l : LiveGraph). state_among l.graph (teams_of workers)) new.live_is

  logs-are : (state_among g (teams_of workers)).logs ≡ begun.logs
  unfolding state_among
  logs-are =
      sym (
      fill_by_all (λ t. (station_of g (teams_of workers) t).log.dates) begun.logs (stations g) [] is.a_log_each
      (λ t there. sym (new.new.logs t there)))

  state-is : state_among (graph_of workers) (teams_of workers) ≡ begun
  state-is =
      rest_is_of_logs workers new.whole met_here
      ∙ ap (λ (l : LiveGraph). state_of l.graph (state_among l.graph (teams_of workers)).logs) new.live_is
      ∙ ap (state_of g) logs-are
      ∙ sym (state_of-logs g begun is)

  no-turns : All (λ turns. turns ≡ 0) (turns_among (graph_of workers) (teams_of workers))
  no-turns =
      subst (λ (l : LiveGraph). All (λ turns. turns ≡ 0) (turns_among l.graph (teams_of workers))) (sym new.live_is) (
      λ t d low.
      let U : ℕ → ℕ = λ u. turns_of (station_of g (teams_of workers) u) in
      let there : t < stations g = omega (arith, low, length-map-range_with_len U 0 (stations g)) in
      get_or-map-range_with_len U 0 (stations g) t t d there (zero-add t) ∙ new.new.turns t there)

  pub new_at_rest : AreAtRest workers made
  new_at_rest = record {
    whole = new.whole;
    few = omega (arith, new.count, few);
    met = met_here;
    pace = (omega (arith, made_is, ap firing_count state-is), λ t d low. omega (arith, no-turns t d low));
  }

  pub new_stands : StandsIn room live begun worker_count (line_of workers made)
  new_stands = record {
    live_is = new.live_is;
    state_is = state-is;
    workers_are = new.count;
    room_is = new.room_is;
    made_is = made_is;
    no_turns = no-turns;
  }

-- ---- the end

module _ (workers : List LineWorker) (are : AreWorkers workers) where
  pub target-of : (w : ℕ) → w < length workers → (worker_at workers w).target ≡ jobs (graph_of workers)
  target-of w low = (are.each w low).target ∙ ap jobs (graph-same workers are w low)

  pub log-of : (t : ℕ) → t < stations (graph_of workers) → log (state_among (graph_of workers) (teams_of workers)) t ≡ (station_of (graph_of workers) (teams_of workers) t).log.dates
  log-of = log-among (graph_of workers) (begun_of workers) (teams_of workers) (ranked workers are).sound (ranked workers are).limits.some_station (workers_are_teams workers are)

  pub done_is_finished : ((w : ℕ) → w < length workers → AllDone (worker_at workers w).target (worker_at workers w).team) → IsFinished (graph_of workers) (state_among (graph_of workers) (teams_of workers))
  done_is_finished done t there =
      let w = worker_of (length workers) (stations (graph_of workers)) t in
      let low = worker_there workers are t there in
      let i = t - first_of (length workers) (stations (graph_of workers)) w in
      ap length (log-of t there)
      ∙ sym (ap dates_of (seated workers are t there))
      ∙ done w low i (seat_there workers are t there).number
      ∙ target-of w low

  pub finished_is_done : IsFinished (graph_of workers) (state_among (graph_of workers) (teams_of workers)) → (w : ℕ) → w < length workers → AllDone (worker_at workers w).target (worker_at workers w).team
  finished_is_done finished w low i low_i =
      let seat = of_seat workers are w i low low_i in
      let t = first_of (length workers) (stations (graph_of workers)) w + i in
      sym (ap dates_of seat.1)
      ∙ sym (ap length (log-of t seat.0))
      ∙ finished t seat.0
      ∙ sym (target-of w low)

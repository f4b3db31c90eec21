-- A burst of all workers: what each did, and then the meeting.
use Rattle.std.proofs.Common.{◌≡◌, ℕ, ◌+◌, ◌-◌, ◌<◌, ◌≤◌, List, [], ◌∷◌, take, min, length, refl, ap, ◌∙◌, sym, subst, arith, ⊎_elim, inl, inr}
use Rattle.line_base.specs.declared.event.Parts.{Parts}
use Rattle.line_base.specs.Roomy.{RoomyLog}
use Rattle.event_graph.specs.Network.{stations, jobs, arc_count}
use Rattle.card_queue.specs.Plain.{PlainQueue}
use Rattle.station_step.specs.Station.{WorkStation}
use Rattle.station_step.specs.Step.{IsReady}
use Rattle.line_worker.specs.Share.{worker_of, first_of}
use Rattle.line_worker.specs.Team.{WorkTeam, member}
use Rattle.line_worker.specs.Teams.{team_at, station_of, shelf_of, IsJoined, AreAllMet}
use Rattle.line_worker.specs.Worker.{LineWorker, teams_of}
use Rattle.line_worker.specs.Work.{dates_of, turns_of, HasWorked, HasBurst, HasBurstAlone, IsAlone, AllDone, TeamWorked, TeamsWorked}
use Rattle.line_worker.specs.Sweeps.{most_sweeps}
use Rattle.line_workers.specs.Meeting.{AreStill}
use Rattle.line_worker.specs.Workers.{worker_at, graph_of, begun_of, AreWorkers, AreSameWorkers, HasDoneBurst}
use Rattle.line_workers.specs.Burst.{AllMade, EachMade, WorkerBurst, WorkersBurst}
use Rattle.line_worker.proofs.WorkerTeams.{count-teams, team_at-workers}
use Rattle.line_workers.proofs.AllWorkers.{graph-same, worker_there, seat_there, seated, of_seat, workers-same, then_same}

-- the team of the only worker
single : (workers : List LineWorker) → length workers ≡ 1 → teams_of workers ≡ (worker_at workers 0).team ∷ []
single [] one = absurd (omega (arith, one))
single (c ∷ []) one = refl
single (c ∷ d ∷ workers) one = absurd (omega (arith, one))

module _ (old mid : List LineWorker) (are : AreWorkers old) (count : length mid ≡ length old) (each : (w : ℕ) → w < length old → HasDoneBurst (worker_at old w) (worker_at mid w)) where
  abbrev g : Parts
  g = graph_of old

  pub same-mid : AreSameWorkers old mid
  same-mid = record { count = count; each = λ w low. (each w low).same }

  pub worked-mid : TeamsWorked (teams_of old) (teams_of mid)
  worked-mid = record {
    count = count-teams mid ∙ count ∙ sym (count-teams old);
    each = λ w low.
        let w_old : w < length old = omega (arith, low, count-teams old) in
        let w_mid : w < length mid = omega (arith, w_old, count) in
        subst (λ (t : WorkTeam). TeamWorked t (team_at (teams_of mid) w)) (sym (team_at-workers old w w_old)) (
        subst (TeamWorked (worker_at old w).team) (sym (team_at-workers mid w w_mid)) (each w w_old).burst.worked);
  }

  pub are-mid : AreWorkers mid
  are-mid = workers-same old are mid same-mid worked-mid

  -- the station with number t, before and after
  module _ (t : ℕ) (there : t < stations (graph_of old)) where
    abbrev w : ℕ
    w = worker_of (length old) (stations (graph_of old)) t

    abbrev i : ℕ
    i = t - first_of (length old) (stations (graph_of old)) (worker_of (length old) (stations (graph_of old)) t)

    w_there : w < length old
    w_there = worker_there old are t there

    i_there : i < length (worker_at old w).team.stations
    i_there = (seat_there old are t there).number

    at_old : member (worker_at old w).team.stations i ≡ station_of g (teams_of old) t
    at_old = seated old are t there

    at_mid : member (worker_at mid w).team.stations i ≡ station_of g (teams_of mid) t
    at_mid =
        sym (
        ap (λ n. member (team_at (teams_of mid) (worker_of n (stations g) t)).stations (t - first_of n (stations g) (worker_of n (stations g) t))) (count-teams mid ∙ count)
        ∙ ap (λ (u : WorkTeam). member u.stations i) (team_at-workers mid w (omega (arith, w_there, count))))

    shelf_old : (worker_at old w).team.shelf ≡ shelf_of g (teams_of old) t
    shelf_old =
        sym (
        ap (λ n. (team_at (teams_of old) (worker_of n (stations g) t)).shelf) (count-teams old)
        ∙ ap (λ (u : WorkTeam). u.shelf) (team_at-workers old w w_there))

    burst : HasBurst (worker_at old w).target (worker_at old w).team (worker_at mid w).team
    burst = (each w w_there).burst

    pub target-is : (worker_at old (worker_of (length old) (stations (graph_of old)) t)).target ≡ jobs (graph_of old)
    target-is = (are.each w w_there).target ∙ ap jobs (graph-same old are w w_there)

    worked-t : HasWorked (station_of g (teams_of old) t) (station_of g (teams_of mid) t)
    worked-t =
        subst (λ (s : WorkStation). HasWorked s (station_of g (teams_of mid) t)) at_old (
        subst (HasWorked (member (worker_at old w).team.stations i)) at_mid (burst.worked.each i i_there))

    few-t : turns_of (station_of g (teams_of mid) t) ≤ turns_of (station_of g (teams_of old) t) + most_sweeps
    few-t = omega (arith, burst.few i i_there, ap turns_of at_old, ap turns_of at_mid)

    fired-t : IsReady (shelf_of g (teams_of old) t) (station_of g (teams_of old) t) → dates_of (station_of g (teams_of old) t) < dates_of (station_of g (teams_of mid) t)
    fired-t ready =
        let here : IsReady (worker_at old w).team.shelf (member (worker_at old w).team.stations i) =
        subst (λ (shelf : List PlainQueue). IsReady shelf (member (worker_at old w).team.stations i)) (sym shelf_old) (
        subst (IsReady (shelf_of g (teams_of old) t)) (sym at_old) ready) in
        omega (arith, burst.fired i i_there here, ap dates_of at_old, ap dates_of at_mid)

  -- all stations of a worker are stations of the graph
  made-in : (f : ℕ → ℕ) → ((t : ℕ) → t < stations g → dates_of (station_of g (teams_of old) t) ≡ f t) → (v i : ℕ) → v < length old → i < length (worker_at old v).team.stations → dates_of (member (worker_at old v).team.stations i) ≡ f (first_of (length old) (stations g) v + i)
  made-in f made v i low low_i =
      let of = of_seat old are v i low low_i in
      ap dates_of (sym of.1) ∙ made (first_of (length old) (stations g) v + i) of.0

  -- the stations of one worker
  beside-t : (t : ℕ) → t < stations g → WorkerBurst g (length old) (teams_of old) (teams_of mid) t
  beside-t t there =
      let owner : ℕ → ℕ = worker_of (length old) (stations g) in
      let number : ℕ → ℕ = λ u. u - first_of (length old) (stations g) (owner u) in
      let low = worker_there old are t there in
      let burst : HasBurst (worker_at old (owner t)).target (worker_at old (owner t)).team (worker_at mid (owner t)).team = (each (owner t) low).burst in
      let there-of : (u : ℕ) → u < stations g → owner u ≡ owner t → number u < length (worker_at old (owner t)).team.stations =
      λ u u_there one. subst (λ v. number u < length (worker_at old v).team.stations) one (seat_there old are u u_there).number in
      let old-of : (u : ℕ) → u < stations g → owner u ≡ owner t → member (worker_at old (owner t)).team.stations (number u) ≡ station_of g (teams_of old) u =
      λ u u_there one. sym (ap (λ v. member (worker_at old v).team.stations (number u)) one) ∙ at_old u u_there in
      let mid-of : (u : ℕ) → u < stations g → owner u ≡ owner t → member (worker_at mid (owner t)).team.stations (number u) ≡ station_of g (teams_of mid) u =
      λ u u_there one. sym (ap (λ v. member (worker_at mid v).team.stations (number u)) one) ∙ at_mid u u_there in
      record {
        even = λ u u_there one.
            omega (
              arith,
              burst.even (number u) (number t) (there-of u u_there one) (there-of t there refl),
              ap turns_of (old-of u u_there one),
              ap turns_of (mid-of u u_there one),
              ap turns_of (old-of t there refl),
              ap turns_of (mid-of t there refl),
            );
        ended =
            ⊎_elim
            (λ done. inl (λ u u_there one.
            sym (ap dates_of (mid-of u u_there one))
            ∙ done (number u) (omega (arith, there-of u u_there one, burst.worked.count))
            ∙ target-is t there))
            (λ full. inr (omega (arith, full (number t) (there-of t there refl), ap turns_of (old-of t there refl), ap turns_of (mid-of t there refl))))
            burst.ended;
      }

  idle-t : AllMade g (teams_of old) → (t : ℕ) → t < stations g → turns_of (station_of g (teams_of mid) t) ≡ turns_of (station_of g (teams_of old) t)
  idle-t all t there =
      let v = worker_of (length old) (stations g) t in
      let v_there = worker_there old are t there in
      let done : AllDone (worker_at old v).target (worker_at old v).team =
      λ k low. made-in (λ u. jobs g) all v k v_there low ∙ sym (target-is t there) in
      sym (ap turns_of (at_mid t there))
      ∙ (each v v_there).burst.idle done (t - first_of (length old) (stations g) v) (seat_there old are t there).number
      ∙ ap turns_of (at_old t there)

  -- one worker
  module _ (one : length old ≡ 1) (times : ℕ) (le : times ≤ jobs (graph_of old)) (made : EachMade (graph_of old) (teams_of old) times) where
    zero_there : 0 < length old
    zero_there = omega (arith, one)

    abbrev c : LineWorker
    c = worker_at old 0

    alone : IsAlone (worker_at old 0) times
    alone =
        let joined_old : (a : ℕ) → a < arc_count g → IsJoined g (begun_of old) (teams_of old) a = are.joined in
        let teams_one : teams_of old ≡ (worker_at old 0).team ∷ [] = single old one in
        record {
          one = are.worker_count 0 zero_there ∙ one;
          joined = subst (λ (ts : List WorkTeam). (a : ℕ) → a < arc_count g → IsJoined g (begun_of old) ts a) teams_one joined_old;
          fired = λ k low. made-in (λ u. times) made 0 k zero_there low;
        }

    target-zero : (worker_at old 0).target ≡ jobs (graph_of old)
    target-zero = (are.each 0 zero_there).target

    burst-alone : HasBurstAlone times (worker_at old 0) (worker_at mid 0)
    burst-alone = (each 0 zero_there).alone times alone (omega (arith, le, target-zero))

    seat-zero : (t : ℕ) → t < stations g → worker_of (length old) (stations g) t ≡ 0
    seat-zero t there = omega (arith, worker_there old are t there, one)

    pub alone-dates : (t : ℕ) → t < stations g → dates_of (station_of g (teams_of mid) t) ≡ min (times + most_sweeps) (jobs g)
    alone-dates t there =
        let k = t - first_of (length old) (stations g) (worker_of (length old) (stations g) t) in
        let low = (seat_there old are t there).number in
        let zero = seat-zero t there in
        let count_same : length (worker_at mid 0).team.stations ≡ length (worker_at old 0).team.stations = (each 0 zero_there).burst.worked.count in
        let within : k < length (worker_at mid 0).team.stations = omega (arith, low, ap (λ v. length (worker_at old v).team.stations) zero, count_same) in
        sym (ap dates_of (at_mid t there))
        ∙ ap (λ v. dates_of (member (worker_at mid v).team.stations k)) zero
        ∙ burst-alone.alone.fired k within
        ∙ ap (min (times + most_sweeps)) target-zero

    pub alone-turns : (t : ℕ) → t < stations g → turns_of (station_of g (teams_of mid) t) + times ≡ turns_of (station_of g (teams_of old) t) + min (times + most_sweeps) (jobs g)
    alone-turns t there =
        let k = t - first_of (length old) (stations g) (worker_of (length old) (stations g) t) in
        let low = (seat_there old are t there).number in
        let zero = seat-zero t there in
        let within : k < length (worker_at old 0).team.stations = omega (arith, low, ap (λ v. length (worker_at old v).team.stations) zero) in
        let m : turns_of (station_of g (teams_of mid) t) ≡ turns_of (member (worker_at mid 0).team.stations k) =
        sym (ap turns_of (at_mid t there)) ∙ ap (λ v. turns_of (member (worker_at mid v).team.stations k)) zero in
        let o : turns_of (station_of g (teams_of old) t) ≡ turns_of (member (worker_at old 0).team.stations k) =
        sym (ap turns_of (at_old t there)) ∙ ap (λ v. turns_of (member (worker_at old v).team.stations k)) zero in
        ap (λ n. n + times) m
        ∙ burst-alone.turns k within
        ∙ ap (λ n. n + min (times + most_sweeps) (worker_at old 0).target) (sym o)
        ∙ ap (λ n. turns_of (station_of g (teams_of old) t) + min (times + most_sweeps) n) target-zero

  -- and then all queues meet
  pub workers_burst : (new : List LineWorker) → AreSameWorkers mid new → TeamsWorked (teams_of mid) (teams_of new) → AreStill (graph_of old) (teams_of mid) (teams_of new) → AreAllMet (graph_of old) (teams_of new) → WorkersBurst old new
  workers_burst new same worked still met =
      let old_teams = teams_of old in
      let mid_teams = teams_of mid in
      let new_teams = teams_of new in
      record {
        whole = workers-same mid are-mid new same worked;
        same = then_same old mid new same-mid same;
        met = met;
        each = λ t there.
            let log : (station_of g new_teams t).log ≡ (station_of g mid_teams t).log = still.logs t there in
            let turns : turns_of (station_of g new_teams t) ≡ turns_of (station_of g mid_teams t) = still.turns t there in
            let w = worked-t t there in
            record {
              kept = ap (λ (l : RoomyLog). take (dates_of (station_of g old_teams t)) l.dates) log ∙ w.kept;
              turned = omega (arith, w.turned, turns);
              steps = omega (arith, w.steps, turns, ap (λ (l : RoomyLog). length l.dates) log);
              few = omega (arith, few-t t there, turns);
              fired = λ ready. omega (arith, fired-t t there ready, ap (λ (l : RoomyLog). length l.dates) log);
            };
        workers = λ t there.
            let beside = beside-t t there in
            record {
              even = λ u u_there one. omega (arith, beside.even u u_there one, still.turns u u_there, still.turns t there);
              ended =
                  ⊎_elim
                  (λ done. inl (λ u u_there one. ap (λ (l : RoomyLog). length l.dates) (still.logs u u_there) ∙ done u u_there one))
                  (λ full. inr (omega (arith, full, still.turns t there)))
                  beside.ended;
            };
        idle = λ all t there. still.turns t there ∙ idle-t all t there;
        alone = λ one times le made t there. ap (λ (l : RoomyLog). length l.dates) (still.logs t there) ∙ alone-dates one times le made t there;
        alone_turns = λ one times le made t there.
            omega (arith, still.turns t there, ap (λ (l : RoomyLog). length l.dates) (still.logs t there), alone-dates one times le made t there, alone-turns one times le made t there, made t there);
      }

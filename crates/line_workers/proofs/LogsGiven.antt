-- The logs of all stations in the order of their numbers, worker by worker, and the state that they leave.
use Rattle.std.proofs.Common.{◌≡◌, ℕ, zero, suc, ◌+◌, ◌<◌, ◌≤◌, List, [], ◌∷◌, ◌++◌, map, length, get_or, refl, ap, ◌∙◌, sym, subst, arith, add-zero, zero-add, append_assoc}
use Rattle.std.specs.List.{range_with_len}
use Rattle.std.proofs.lemmas.List.{append-nil}
use Rattle.std.proofs.lemmas.List.FromFn.{map-range_with_len_more, length-map-range_with_len, get_or-map-range_with_len}
use Rattle.std.proofs.lemmas.Simd.{map-map}
use Rattle.line_base.specs.declared.event.Parts.{Parts}
use Rattle.line_base.specs.Roomy.{RoomyLog, RoomyLogs, dates_of}
use Rattle.event_graph.specs.Network.{stations, jobs}
use Rattle.event_graph.specs.State.{State}
use Rattle.event_graph.specs.Reached.{Reached}
use Rattle.live_check.specs.Order.{LiveGraph}
use Rattle.event_graph.specs.Table.{date_in}
use Rattle.event_graph.specs.Least.{IsLeast}
use Rattle.line_core.specs.Consistent.{state_of, IsFinished}
use Rattle.line_core.specs.ArcTokens.{HasRoom}
use Rattle.line_core.specs.Run.{Run, run_of}
use Rattle.line_core.proofs.Solution.{finished_is_least}
use Rattle.station_step.specs.Station.{WorkStation}
use Rattle.line_worker.specs.Share.{first_of}
use Rattle.line_worker.specs.Team.{member}
use Rattle.line_worker.specs.Teams.{station_of, state_among, AreAllMet}
use Rattle.line_worker.specs.Worker.{LineWorker, teams_of}
use Rattle.line_worker.specs.Workers.{worker_at, live_of, graph_of, begun_of, AreWorkers}
use Rattle.line_workers.specs.Line.{WorkLine, run_in, IsLine}
use Rattle.line_workers.specs.OfWorkers.{line_of, AreAtRest}
use Rattle.line_worker.specs.Logs.{log_of, copy_of}
use Rattle.line_workers.specs.Close.{first_logs, AreGiven}
use Rattle.line_worker.proofs.Share.{first-zero, first-all, first-rises}
use Rattle.line_worker.proofs.TeamStates.{member_is}
use Rattle.line_workers.proofs.AllWorkers.{ranked, workers_are_teams, size-is, of_seat}
use Rattle.line_workers.proofs.Totals.{by_number}
use Rattle.line_workers.proofs.Lines.{rest_is_reached, rest_is_of_logs}

-- ---- lists

-- the numbers from a on, one after the other
map_from : (h k : ℕ → RoomyLog) (a n : ℕ) → ((i : ℕ) → i < n → h (a + i) ≡ k i) → map h (range_with_len 0 (a + n)) ≡ map h (range_with_len 0 a) ++ map k (range_with_len 0 n)
map_from h k a zero same = ap (λ m. map h (range_with_len 0 m)) (add-zero a) ∙ sym (append-nil (map h (range_with_len 0 a)))
map_from h k a (suc n) same =
    let before = map_from h k a n (λ i low. same i (omega arith)) in
    let next : a + suc n ≡ a + n + 1 = omega arith in
    let one : suc n ≡ n + 1 = omega arith in
    ap (λ m. map h (range_with_len 0 m)) next
    ∙ map-range_with_len_more h 0 (a + n) (a + n) (zero-add (a + n))
    ∙ ap (λ l. l ++ h (a + n) ∷ []) before
    ∙ ap (λ x. map h (range_with_len 0 a) ++ map k (range_with_len 0 n) ++ x ∷ []) (same n (omega arith))
    ∙ append_assoc (map h (range_with_len 0 a)) (map k (range_with_len 0 n)) (k n ∷ [])
    ∙ ap (λ l. map h (range_with_len 0 a) ++ l) (sym (ap (λ m. map k (range_with_len 0 m)) one ∙ map-range_with_len_more k 0 n n (zero-add n)))

-- ---- worker by worker

module _ (of : WorkStation → RoomyLog) (workers : List LineWorker) (are : AreWorkers workers) where
  abbrev g : Parts
  g = graph_of workers

  abbrev first : ℕ → ℕ
  first w = first_of (length workers) (stations (graph_of workers)) w

  any : 1 ≤ stations (graph_of workers)
  any = (ranked workers are).limits.some_station

  next-logs : (w : ℕ) → w < length workers → first_logs of g (teams_of workers) (first (w + 1)) ≡ first_logs of g (teams_of workers) (first w) ++ map of (worker_at workers w).team.stations
  next-logs w low =
      let mine = (worker_at workers w).team.stations in
      let station = station_of g (teams_of workers) in
      ap (first_logs of g (teams_of workers)) (sym (size-is workers are w low))
      ∙ map_from (λ t. of (station t)) (λ i. of (member mine i)) (first w) (length mine)
      (λ i low_i. ap of (of_seat workers are w i low low_i).1)
      ∙ ap (λ l. first_logs of g (teams_of workers) (first w) ++ l) (sym (ap (map of) (by_number mine) ∙ map-map of (member mine) (range_with_len 0 (length mine))))

  pub given_none : (given : RoomyLogs) → given.logs ≡ [] → stations (graph_of workers) ≤ given.room → AreGiven of workers 0 given
  given_none given none room = record {
    logs = none ∙ sym (ap (first_logs of g (teams_of workers)) (first-zero (length workers) (stations g) are.some any));
    room = room;
  }

  pub given_more : (w : ℕ) (given more : RoomyLogs) → AreGiven of workers w given → w < length workers → more ≡ record given { logs = given.logs ++ map of (worker_at workers w).team.stations } → AreGiven of workers (w + 1) more
  given_more w given more inv low is = record {
    logs =
        ap (λ (l : RoomyLogs). l.logs) is
        ∙ ap (λ l. l ++ map of (worker_at workers w).team.stations) inv.logs
        ∙ sym (next-logs w low);
    room = omega (arith, inv.room, ap (λ (l : RoomyLogs). l.room) is);
  }

  pub given_fits : (w : ℕ) (given : RoomyLogs) → AreGiven of workers w given → w < length workers → length given.logs + length (worker_at workers w).team.stations ≤ given.room
  given_fits w given inv low =
      omega (arith, inv.room, ap length inv.logs, length-map-range_with_len (λ t. of (station_of g (teams_of workers) t)) 0 (first w), size-is workers are w low, first-rises (length workers) (stations g) are.some any (w + 1) (length workers) (omega (arith, low)), first-all (length workers) (stations g) are.some any)

  pub given_all : (given : RoomyLogs) → AreGiven of workers (length workers) given → given.logs ≡ first_logs of (graph_of workers) (teams_of workers) (stations (graph_of workers))
  given_all given inv =
      inv.logs ∙ ap (first_logs of g (teams_of workers)) (first-all (length workers) (stations g) are.some any)

-- the first worker's logs come into the list that it has for those of all
pub given_first : (workers : List LineWorker) → AreWorkers workers → (c : LineWorker) → c ≡ worker_at workers 0 → (given : RoomyLogs) → given.logs ≡ map log_of c.team.stations → given.room ≡ c.spare.room → AreGiven log_of workers 1 given
given_first workers are c at given logs room =
    let first : 0 < length workers = omega (arith, are.some) in
    let mine = worker_at workers 0 in
    let none : RoomyLogs = record { logs = []; room = mine.spare.room } in
    let is : given ≡ record none { logs = map log_of mine.team.stations } =
    ap (λ l. (let r : RoomyLogs = record given { logs = l } in r)) (logs ∙ ap (λ (x : LineWorker). map log_of x.team.stations) at)
    ∙ ap (λ n. (let r : RoomyLogs = record { logs = map log_of mine.team.stations; room = n } in r)) (room ∙ ap (λ (x : LineWorker). x.spare.room) at) in
    given_more log_of workers are 0 none given (given_none log_of workers are none refl (are.each 0 first).spare_room) first is

-- ---- the state that they leave

-- the dates of the station, with room for a date of each job
pub record KeepsDates (of : WorkStation → RoomyLog) (workers : List LineWorker) : Type 0 where
  pub dates : (s : WorkStation) → (of s).dates ≡ s.log.dates
  pub room : (t : ℕ) → t < stations (graph_of workers) → jobs (graph_of workers) ≤ (of (station_of (graph_of workers) (teams_of workers) t)).room

pub logs_keep : (workers : List LineWorker) → AreWorkers workers → KeepsDates log_of workers
logs_keep workers are =
    let r = ranked workers are in
    record {
      dates = λ s. refl;
      room = λ t there.
          let m = member_is (graph_of workers) (begun_of workers) (teams_of workers) r.sound r.limits.some_station (workers_are_teams workers are) t there in
          omega (arith, m.station.log_room, ap jobs m.graph);
    }

pub copies_keep : (workers : List LineWorker) → KeepsDates (copy_of (jobs (graph_of workers))) workers
copies_keep workers = record { dates = λ s. refl; room = λ t there. omega arith }

-- what is asked of a state's logs, and what the state is
pub record IsClosedWith (workers : List LineWorker) (live : LiveGraph) (given : RoomyLogs) : Type 0 where
  pub reached : Reached live.graph (state_of live.graph (dates_of given))
  pub room : HasRoom live.graph given
  pub state : run_of live.graph given ≡ record { graph = graph_of workers; state = state_among (graph_of workers) (teams_of workers) }

module _ (of : WorkStation → RoomyLog) (workers : List LineWorker) (are : AreWorkers workers) (met : AreAllMet (graph_of workers) (teams_of workers)) (keeps : KeepsDates of workers) (given : RoomyLogs) (all : given.logs ≡ first_logs of (graph_of workers) (teams_of workers) (stations (graph_of workers))) where
  abbrev gr : Parts
  gr = graph_of workers

  dates-are : dates_of given ≡ (state_among (graph_of workers) (teams_of workers)).logs
  unfolding state_among
  dates-are =
      let station = station_of gr (teams_of workers) in
      let D : RoomyLog → List ℕ = λ l. l.dates in
      ap (map D) all
      ∙ map-map D (λ t. of (station t)) (range_with_len 0 (stations gr))
      ∙ ap (λ (h : WorkStation → List ℕ). map (λ t. h (station t)) (range_with_len 0 (stations gr))) (λ i. λ s. keeps.dates s i)

  state-is : state_of gr (dates_of given) ≡ state_among gr (teams_of workers)
  state-is = ap (state_of gr) dates-are ∙ sym (rest_is_of_logs workers are met)

  has-room : HasRoom gr given
  has-room t there =
      let log : RoomyLog = record { dates = []; room = 0 } in
      omega (arith, keeps.room t there, ap (λ (l : List RoomyLog). (get_or l t log).room) all, ap (λ (l : RoomyLog). l.room) (get_or-map-range_with_len (λ u. of (station_of gr (teams_of workers) u)) 0 (stations gr) t t log there (zero-add t)))

  closed_here : IsClosedWith workers (live_of workers) given
  closed_here = record {
    reached = subst (Reached gr) (sym state-is) (rest_is_reached workers are met);
    room = has-room;
    state = ap (λ (s : State). (let r : Run = record { graph = gr; state = s } in r)) state-is;
  }

  pub closed_with : (live : LiveGraph) → live ≡ live_of workers → IsClosedWith workers live given
  closed_with live made_for = subst (λ (l : LiveGraph). IsClosedWith workers l given) (sym made_for) closed_here

-- where every station of a line has fired once for each job, its logs are the least solution
pub line_is_least : (l : WorkLine) → IsLine l → IsFinished l.live.graph l.state → IsLeast l.live.graph (date_in l.state.logs)
line_is_least l is finished =
    finished_is_least l.live.graph l.state is.ranked.limits.some_station is.ranked.sound is.reached.reached finished

-- what is asked of the logs of a state, and what that state is, as a line's fields show it
pub record Closes (live : LiveGraph) (l : WorkLine) (given : RoomyLogs) : Type 0 where
  pub reached : Reached live.graph (state_of live.graph (dates_of given))
  pub room : HasRoom live.graph given
  pub state : run_of live.graph given ≡ run_in l

pub closes : (of : WorkStation → RoomyLog) (workers : List LineWorker) (made : ℕ) (l : WorkLine) → line_of workers made ≡ l → AreAtRest workers made → KeepsDates of workers → (live : LiveGraph) → live ≡ l.live → (given : RoomyLogs) → given.logs ≡ first_logs of (graph_of workers) (teams_of workers) (stations (graph_of workers)) → Closes live l given
closes of workers made l view rest keeps live made_for given all =
    subst (λ (v : WorkLine). live ≡ v.live → Closes live v given) view
    (λ m.
    let with = closed_with of workers rest.whole rest.met keeps given all live m in
    record { reached = with.reached; room = with.room; state = with.state })
    made_for

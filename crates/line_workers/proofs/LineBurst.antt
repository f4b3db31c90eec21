-- What a burst means for the line: firings, steps, progress.
use Rattle.std.proofs.Common.{◌≡◌, ℕ, zero, suc, ◌+◌, ◌-◌, ◌*◌, ◌^◌, ◌<◌, ◌≤◌, ◌↔◌, List, Option, None, map, take, min, length, get_or, zero-add, refl, ap, ◌∙◌, sym, subst, arith, ⊎_elim, inl, inr}
use Rattle.std.specs.List.{sum_by, sum, range_with_len, All}
use Rattle.std.proofs.lemmas.Bool.{cases_lt}
use Rattle.std.proofs.lemmas.List.{length-take, get_or_default}
use Rattle.std.proofs.lemmas.List.FromFn.{map-range_with_len_more, length-map-range_with_len, get_or-map-range_with_len}
use Rattle.std.proofs.lemmas.List.Sums.{sum_by_push}
use Rattle.line_base.specs.declared.event.Parts.{Parts}
use Rattle.event_graph.specs.Network.{stations, jobs, arc, arc_count}
use Rattle.event_graph.specs.State.{log}
use Rattle.event_graph.specs.Firing.{CanFire}
use Rattle.event_graph.specs.Reached.{Reached}
use Rattle.live_check.specs.Order.{LiveGraph, IsRanked}
use Rattle.line_core.specs.Consistent.{IsConsistent, IsFinished, firing_count}
use Rattle.line_core.specs.Round.{HasFired}
use Rattle.line_core.proofs.Consistency.{reached_is_consistent}
use Rattle.line_core.proofs.Bounds.{fired-le}
use Rattle.line_core.proofs.Runs.{is_reached}
use Rattle.station_step.specs.Ends.{HasSpace}
use Rattle.line_worker.specs.Team.{WorkTeam, member}
use Rattle.line_worker.specs.Share.{worker_of, first_of}
use Rattle.line_worker.specs.Teams.{station_of, outlet_on, AreOfRoom, AreTeams, AreAllMet, state_among}
use Rattle.line_worker.specs.Worker.{LineWorker, teams_of}
use Rattle.line_worker.specs.Work.{dates_of, turns_of, TurnsBelow}
use Rattle.line_worker.specs.Sweeps.{most_sweeps}
use Rattle.line_worker.specs.Workers.{worker_at, no_worker, live_of, graph_of, begun_of, room_of, AreWorkers}
use Rattle.line_workers.specs.Burst.{AllMade, EachMade, WorkersBurst}
use Rattle.line_workers.specs.Line.{WorkLine, run_in, KeepsPace, IsLine, IsWithinRooms, LogsGrow, EachWorks}
use Rattle.line_workers.specs.OfWorkers.{turns_among, line_of, AreAtRest}
use Rattle.line_workers.proofs.AllWorkers.{ranked, workers_are_teams, seat_there, seated, of_seat}
use Rattle.line_worker.proofs.TeamStates.{log-among, stands_for_reached, can_fire_is_ready}
use Rattle.line_worker.proofs.OutletSpace.{spaces, free-spaces, few-spaces, first_can_fire}
use Rattle.line_workers.proofs.Lines.{within_rooms}

-- ---- totals over the numbers below n

abbrev total : (ℕ → ℕ) → ℕ → ℕ
total f zero = 0
total f (suc n) = total f n + f n

total-map : {X : Type 0} (f : X → ℕ) (h : ℕ → X) (n : ℕ) → sum_by f (map h (range_with_len 0 n)) ≡ total (λ t. f (h t)) n
total-map f h zero = refl
total-map f h (suc n) =
    let one : suc n ≡ n + 1 = omega arith in
    ap (λ m. sum_by f (map h (range_with_len 0 m))) one
    ∙ ap (sum_by f) (map-range_with_len_more h 0 n n (zero-add n))
    ∙ sum_by_push f (map h (range_with_len 0 n)) (h n)
    ∙ ap (λ s. s + f (h n)) (total-map f h n)

total-le : (f h : ℕ → ℕ) (n : ℕ) → ((t : ℕ) → t < n → f t ≤ h t) → total f n ≤ total h n
total-le f h zero le = omega arith
total-le f h (suc n) le = omega (arith, total-le f h n (λ t low. le t (omega arith)), le n (omega arith))

total-lt : (f h : ℕ → ℕ) (n u : ℕ) → u < n → ((t : ℕ) → t < n → f t ≤ h t) → f u < h u → total f n < total h n
total-lt f h zero u low le less = absurd (omega arith)
total-lt f h (suc n) u low le less =
    ⊎_elim
    (λ before. omega (arith, total-lt f h n u before (λ t t_low. le t (omega arith)) less, le n (omega arith)))
    (λ last. let same : u ≡ n = omega arith in omega (arith, total-le f h n (λ t t_low. le t (omega arith)), subst (λ t. f t < h t) same less))
    (cases_lt u n)

total-plus : (f h : ℕ → ℕ) (n : ℕ) → total (λ t. f t + h t) n ≡ total f n + total h n
total-plus f h zero = omega arith
total-plus f h (suc n) = omega (arith, total-plus f h n)

total-more : (f h : ℕ → ℕ) (k n : ℕ) → ((t : ℕ) → t < n → f t ≤ h t + k) → total f n ≤ total h n + k * n
total-more f h k zero le = omega arith
total-more f h k (suc n) le = omega (arith, total-more f h k n (λ t low. le t (omega arith)), le n (omega arith))

fired-total : (g : Parts) (teams : List WorkTeam) → firing_count (state_among g teams) ≡ total (λ t. dates_of (station_of g teams t)) (stations g)
unfolding state_among
fired-total g teams = total-map length (λ t. (station_of g teams t).log.dates) (stations g)

turns-total : (g : Parts) (teams : List WorkTeam) → sum (turns_among g teams) ≡ total (λ t. turns_of (station_of g teams t)) (stations g)
turns-total g teams = total-map (λ (n : ℕ). n) (λ t. turns_of (station_of g teams t)) (stations g)

-- ---- the clauses of a burst

pub record LineBurst (old new : WorkLine) (f s : ℕ) : Type 0 where
  pub line : IsLine new
  pub frame : new ≡ record old { state = new.state; turns = new.turns }
  pub logs : LogsGrow old.live.graph old.state new.state
  pub works : EachWorks old new
  pub fired : firing_count new.state ≡ firing_count old.state + f
  pub steps : sum new.turns ≡ sum old.turns + s
  pub at_most : f ≤ s
  pub few : s ≤ most_sweeps * stations old.live.graph
  pub ready : old.room ≡ None → (t : ℕ) → CanFire old.live.graph old.state t → length (log old.state t) < length (log new.state t)
  pub idle : (f ≡ 0) ↔ IsFinished old.live.graph old.state
  pub rest : IsFinished old.live.graph old.state → s ≡ 0
  pub alone : (times : ℕ) → old.worker_count ≡ 1 → HasFired (run_in old) times → HasFired (run_in new) (min (times + most_sweeps) (jobs old.live.graph))
  pub alone_steps : (times : ℕ) → old.worker_count ≡ 1 → HasFired (run_in old) times → s ≡ f

-- ---- the counts never fall

module _ (old new : List LineWorker) (are_old : AreWorkers old) (b : WorkersBurst old new) where
  pub same-live : live_of new ≡ live_of old
  same-live =
      let first : 0 < length old = omega (arith, are_old.some) in
      ap (λ (c : LineWorker). c.live) (b.same.each 0 first).frame

  pub dates-grow : (t : ℕ) → t < stations (graph_of old) → dates_of (station_of (graph_of old) (teams_of old) t) ≤ dates_of (station_of (graph_of old) (teams_of new) t)
  dates-grow t there =
      omega (arith, ap length (b.each t there).kept, length-take (dates_of (station_of (graph_of old) (teams_of old) t)) (station_of (graph_of old) (teams_of new) t).log.dates)

  pub fired-grow : firing_count (state_among (graph_of old) (teams_of old)) ≤ firing_count (state_among (graph_of old) (teams_of new))
  fired-grow =
      let g = graph_of old in
      omega (arith, fired-total g (teams_of old), fired-total g (teams_of new), total-le (λ t. dates_of (station_of g (teams_of old) t)) (λ t. dates_of (station_of g (teams_of new) t)) (stations g) dates-grow)

  pub turns-grow : sum (turns_among (graph_of old) (teams_of old)) ≤ sum (turns_among (graph_of old) (teams_of new))
  turns-grow =
      let g = graph_of old in
      omega (arith, turns-total g (teams_of old), turns-total g (teams_of new), total-le (λ t. turns_of (station_of g (teams_of old) t)) (λ t. turns_of (station_of g (teams_of new) t)) (stations g) (λ t there. (b.each t there).turned))

  -- counted before and after
  pub fired-since : (was now : ℕ) → was ≡ firing_count (state_among (graph_of old) (teams_of old)) → now ≡ firing_count (state_among (graph_of new) (teams_of new)) → (was ≤ now) × (firing_count (state_among (graph_of old) (teams_of new)) ≡ firing_count (state_among (graph_of old) (teams_of old)) + (now - was))
  fired-since was now is_was is_now =
      let here = is_now ∙ ap (λ (l : LiveGraph). firing_count (state_among l.graph (teams_of new))) same-live in (
        omega (arith, here, is_was, fired-grow),
        omega (arith, here, is_was, fired-grow),
      )

  pub turns-since : (was now : ℕ) → was ≡ sum (turns_among (graph_of old) (teams_of old)) → now ≡ sum (turns_among (graph_of new) (teams_of new)) → (was ≤ now) × (sum (turns_among (graph_of old) (teams_of new)) ≡ sum (turns_among (graph_of old) (teams_of old)) + (now - was))
  turns-since was now is_was is_now =
      let here = is_now ∙ ap (λ (l : LiveGraph). sum (turns_among l.graph (teams_of new))) same-live in (
        omega (arith, here, is_was, turns-grow),
        omega (arith, here, is_was, turns-grow),
      )

  -- few turns are few still
  pub turns-below : All (λ (worker : LineWorker). TurnsBelow (2 ^ 38) worker.team) old → All (λ (worker : LineWorker). TurnsBelow (2 ^ 40) worker.team) new
  turns-below low k d within i low_i =
      let at : worker_at new k ≡ get_or new k d = get_or_default new k no_worker d within in
      let i_there : i < length (worker_at new k).team.stations = omega (arith, low_i, ap (λ (c : LineWorker). length c.team.stations) at) in
      let seat = of_seat new b.whole k i within i_there in
      let t = first_of (length new) (stations (graph_of new)) k + i in
      let g_same = ap (λ (l : LiveGraph). l.graph) same-live in
      let there : t < stations (graph_of old) = omega (arith, seat.0, ap stations g_same) in
      let is : turns_of (station_of (graph_of old) (teams_of new) t) ≡ turns_of (member (get_or new k d).team.stations i) =
      ap (λ (h : Parts). turns_of (station_of h (teams_of new) t)) (sym g_same)
      ∙ ap turns_of seat.1
      ∙ ap (λ (c : LineWorker). turns_of (member c.team.stations i)) at in
      let w = worker_of (length old) (stations (graph_of old)) t in
      let was = ap turns_of (seated old are_old t there) in
      let stands = seat_there old are_old t there in
      let before = low w no_worker stands.worker_number (t - first_of (length old) (stations (graph_of old)) w) stands.number in
      omega (arith, is, was, before, (b.each t there).few)

module _ (old new : List LineWorker) (made : ℕ) (rest : AreAtRest old made) (b : WorkersBurst old new) (f s : ℕ) where
  abbrev g : Parts
  g = graph_of old

  -- the new line, seen with what the old one was made for
  abbrev seen : WorkLine
  seen = record (line_of old made) {
    state = state_among (graph_of old) (teams_of new);
    turns = turns_among (graph_of old) (teams_of new);
  }

  are : AreWorkers old
  are = rest.whole

  first : 0 < length old
  first = omega (arith, are.some)

  ranks : IsRanked (live_of old)
  ranks = ranked old are

  some : 1 ≤ stations g
  some = ranks.limits.some_station

  teams_old : AreTeams g (begun_of old) (teams_of old)
  teams_old = workers_are_teams old are

  live_same : live_of new ≡ live_of old
  live_same = ap (λ (c : LineWorker). c.live) (b.same.each 0 first).frame

  begun_same : begun_of new ≡ begun_of old
  begun_same = ap (λ (c : LineWorker). c.begun) (b.same.each 0 first).frame

  teams_new : AreTeams g (begun_of old) (teams_of new)
  teams_new =
      subst (λ begun. AreTeams g begun (teams_of new)) begun_same (
      subst (λ (l : LiveGraph). AreTeams l.graph (begun_of new) (teams_of new)) live_same (workers_are_teams new b.whole))

  pub line-seen : line_of new made ≡ seen
  line-seen =
      ap (λ (l : LiveGraph). record { live = l; state = state_among l.graph (teams_of new); turns = turns_among l.graph (teams_of new); worker_count = length new; room = room_of new; made = made }) live_same
      ∙ ap (λ n. record seen { worker_count = n; room = room_of new }) b.same.count
      ∙ ap (λ (r : Option ℕ). record seen { room = r }) (ap (λ (c : LineWorker). c.room) (b.same.each 0 first).frame)

  begun_reached : Reached g (begun_of old)
  begun_reached = (are.each 0 first).reached

  reached_old : Reached g (state_among g (teams_of old))
  reached_old = stands_for_reached g (begun_of old) (teams_of old) ranks.sound some teams_old rest.met (live_of old).ranks ranks begun_reached

  reached_new : Reached g (state_among g (teams_of new))
  reached_new = stands_for_reached g (begun_of old) (teams_of new) ranks.sound some teams_new b.met (live_of old).ranks ranks begun_reached

  old-log : (t : ℕ) → t < stations g → log (state_among g (teams_of old)) t ≡ (station_of g (teams_of old) t).log.dates
  old-log = log-among g (begun_of old) (teams_of old) ranks.sound some teams_old

  new-log : (t : ℕ) → t < stations g → log (state_among g (teams_of new)) t ≡ (station_of g (teams_of new) t).log.dates
  new-log = log-among g (begun_of old) (teams_of new) ranks.sound some teams_new

  old_is : IsConsistent g (state_among g (teams_of old))
  old_is = reached_is_consistent g (state_among g (teams_of old)) reached_old

  abbrev D : ℕ → ℕ
  D t = dates_of (station_of (graph_of old) (teams_of old) t)

  abbrev D' : ℕ → ℕ
  D' t = dates_of (station_of (graph_of old) (teams_of new) t)

  abbrev U : ℕ → ℕ
  U t = turns_of (station_of (graph_of old) (teams_of old) t)

  abbrev U' : ℕ → ℕ
  U' t = turns_of (station_of (graph_of old) (teams_of new) t)

  grows : (t : ℕ) → t < stations g → D t ≤ D' t
  grows = dates-grow old new are b

  finished-made : IsFinished g (state_among g (teams_of old)) → AllMade g (teams_of old)
  finished-made finished t there = sym (ap length (old-log t there)) ∙ finished t there

  module _ (fired_is : firing_count (state_among (graph_of old) (teams_of new)) ≡ firing_count (state_among (graph_of old) (teams_of old)) + f) (steps_is : sum (turns_among (graph_of old) (teams_of new)) ≡ sum (turns_among (graph_of old) (teams_of old)) + s) where
    dates_is : total D' (stations g) ≡ total D (stations g) + f
    dates_is = omega (arith, fired_is, fired-total g (teams_of old), fired-total g (teams_of new))

    turns_is : total U' (stations g) ≡ total U (stations g) + s
    turns_is = omega (arith, steps_is, turns-total g (teams_of old), turns-total g (teams_of new))

    -- a station that can fire does, where its outlets have space
    fires : (t : ℕ) → CanFire g (state_among g (teams_of old)) t → ((a : ℕ) → a < arc_count g → (arc g a).from ≡ t → HasSpace (outlet_on g (teams_of old) a)) → D t < D' t
    fires t can space =
        (b.each t can.exists).fired (
        can_fire_is_ready g (begun_of old) (teams_of old) ranks.sound some teams_old rest.met t can (
        spaces g (begun_of old) (teams_of old) ranks.sound some teams_old t can.exists space))

    fires_freely : room_of old ≡ None → (t : ℕ) → CanFire g (state_among g (teams_of old)) t → D t < D' t
    fires_freely free t can =
        fires t can (λ a listed _.
        free-spaces g (begun_of old) (teams_of old) ranks.sound some teams_old (subst (λ (r : Option ℕ). AreOfRoom r g (teams_of old)) free are.rooms) a listed)

    none-finished : f ≡ 0 → IsFinished g (state_among g (teams_of old))
    none-finished none t there =
        ⊎_elim
        (λ undone.
        let next = first_can_fire g (state_among g (teams_of old)) (live_of old).ranks ranks.sound ranks.upward.upward old_is t there undone in
        absurd (omega (
          arith,
          none,
          dates_is,
          total-lt D D' (stations g) next.0 next.1.exists grows (
              fires next.0 next.1 (λ a listed starts.
              few-spaces g (begun_of old) (teams_of old) ranks.sound some teams_old rest.met (room_of old) are.some_room are.rooms a listed (next.2 a listed starts))),
        )))
        (λ done. omega (arith, done, old_is.few_dates t there))
        (cases_lt (length (log (state_among g (teams_of old)) t)) (jobs g))

    no_steps : IsFinished g (state_among g (teams_of old)) → s ≡ 0
    no_steps finished =
        let same = b.idle (finished-made finished) in
        omega (arith, turns_is, total-le U' U (stations g) (λ t there. omega (arith, same t there)))

    fewer : f ≤ s
    fewer =
        omega (arith, dates_is, turns_is, total-plus D' U (stations g), total-plus D U' (stations g), total-le (λ t. D' t + U t) (λ t. D t + U' t) (stations g) (λ t there. (b.each t there).steps))

    pace : KeepsPace seen
    pace =
        let before = rest.pace in
        let T = stations g in
        let pace-at : (t : ℕ) → t < T → U t ≤ most_sweeps * (firing_count (state_among g (teams_of old)) - made) =
        λ t there.
        let turn : get_or (turns_among g (teams_of old)) t 0 ≡ U t = get_or-map-range_with_len U 0 T t t 0 there (zero-add t) in
        omega (arith, sym turn, before.1 t 0 (omega (arith, there, length-map-range_with_len U 0 T))) in (
          omega (arith, before.0, fired_is),
          λ t d low.
              let there : t < T = omega (arith, low, length-map-range_with_len U' 0 T) in
              let turn : get_or (turns_among g (teams_of new)) t d ≡ U' t = get_or-map-range_with_len U' 0 T t t d there (zero-add t) in
              ⊎_elim
              (λ none.
              let finished = none-finished (omega arith) in
              omega (arith, turn, b.idle (finished-made finished) t there, pace-at t there, fired_is, before.0))
              (λ some_fired. omega (arith, turn, (b.each t there).few, pace-at t there, fired_is, before.0, some_fired))
              (cases_lt f 1),
        )

    -- what each station did, as the line shows it
    works : EachWorks (line_of old made) seen
    works t there =
        let turns-old : (u : ℕ) → u < stations g → get_or (turns_among g (teams_of old)) u 0 ≡ U u =
        λ u u_there. get_or-map-range_with_len U 0 (stations g) u u 0 u_there (zero-add u) in
        let turns-new : (u : ℕ) → u < stations g → get_or (turns_among g (teams_of new)) u 0 ≡ U' u =
        λ u u_there. get_or-map-range_with_len U' 0 (stations g) u u 0 u_there (zero-add u) in
        let each = b.each t there in
        let beside = b.workers t there in
        record {
          turned = omega (arith, each.turned, turns-old t there, turns-new t there);
          few = omega (arith, each.few, turns-old t there, turns-new t there);
          ended =
              ⊎_elim
              (λ done. inl (λ u u_there one. ap length (new-log u u_there) ∙ done u u_there one))
              (λ full. inr (omega (arith, full, turns-old t there, turns-new t there)))
              beside.ended;
          even = λ u u_there one.
              omega (arith, beside.even u u_there one, turns-old u u_there, turns-new u u_there, turns-old t there, turns-new t there);
          steps = omega (arith, each.steps, turns-old t there, turns-new t there, ap length (old-log t there), ap length (new-log t there));
        }

    each_made : (times : ℕ) → HasFired (record { graph = g; state = state_among g (teams_of old) }) times → EachMade g (teams_of old) times
    each_made times has t there = sym (ap length (old-log t there)) ∙ has t there

    times-few : (times : ℕ) → HasFired (record { graph = g; state = state_among g (teams_of old) }) times → times ≤ jobs g
    times-few times has = omega (arith, has 0 some, old_is.few_dates 0 some)

    pub line_burst : LineBurst (line_of old made) seen f s
    line_burst = record {
      line = record {
        ranked = ranks;
        reached = is_reached g (state_among g (teams_of new)) ranks.sound ranks.limits reached_new;
        pace = pace;
        within = subst IsWithinRooms line-seen (within_rooms new made b.whole (subst (λ (l : LiveGraph). AreAllMet l.graph (teams_of new)) (sym live_same) b.met));
      };
      frame = refl;
      logs = λ t there.
          ap (λ l. take (length l) (log (state_among g (teams_of new)) t)) (old-log t there)
          ∙ ap (take (D t)) (new-log t there)
          ∙ (b.each t there).kept
          ∙ sym (old-log t there);
      works = works;
      fired = fired_is;
      steps = steps_is;
      at_most = fewer;
      few = omega (arith, turns_is, total-more U' U most_sweeps (stations g) (λ t there. (b.each t there).few));
      ready = λ free t can. omega (arith, fires_freely free t can, ap length (old-log t can.exists), ap length (new-log t can.exists));
      idle = (none-finished, λ finished. omega (arith, fewer, no_steps finished));
      rest = no_steps;
      alone = λ times one has t there. ap length (new-log t there) ∙ b.alone one times (times-few times has) (each_made times has) t there;
      alone_steps = λ times one has.
          let same = b.alone_turns one times (times-few times has) (each_made times has) in
          let le = total-le (λ t. U' t + D t) (λ t. U t + D' t) (stations g) (λ t there. omega (arith, same t there)) in
          let ge = total-le (λ t. U t + D' t) (λ t. U' t + D t) (stations g) (λ t there. omega (arith, same t there)) in
          omega (arith, dates_is, turns_is, le, ge, total-plus U' D (stations g), total-plus U D' (stations g));
    }

    -- the workers are at rest again
    pub at_rest_again : AreAtRest new made
    at_rest_again = record {
      whole = b.whole;
      few = omega (arith, rest.few, b.same.count);
      met = subst (λ (l : LiveGraph). AreAllMet l.graph (teams_of new)) (sym live_same) b.met;
      pace = subst KeepsPace (sym line-seen) pace;
    }

    pub burst_of_line : LineBurst (line_of old made) (line_of new made) f s
    burst_of_line = subst (λ (l : WorkLine). LineBurst (line_of old made) l f s) (sym line-seen) line_burst

-- ---- the line in its struct

-- no station of a line at rest has made many turns
pub turns-low : (workers : List LineWorker) (made : ℕ) → AreAtRest workers made → All (λ (worker : LineWorker). TurnsBelow (2 ^ 38) worker.team) workers
turns-low workers made rest k d within i low_i =
    let are = rest.whole in
    let g = graph_of workers in
    let ranks = ranked workers are in
    let at : worker_at workers k ≡ get_or workers k d = get_or_default workers k no_worker d within in
    let i_there : i < length (worker_at workers k).team.stations = omega (arith, low_i, ap (λ (c : LineWorker). length c.team.stations) at) in
    let seat = of_seat workers are k i within i_there in
    let t = first_of (length workers) (stations g) k + i in
    let U : ℕ → ℕ = λ u. turns_of (station_of g (teams_of workers) u) in
    let turn : get_or (turns_among g (teams_of workers)) t 0 ≡ U t = get_or-map-range_with_len U 0 (stations g) t t 0 seat.0 (zero-add t) in
    let is : U t ≡ turns_of (member (get_or workers k d).team.stations i) =
    ap turns_of seat.1 ∙ ap (λ (c : LineWorker). turns_of (member c.team.stations i)) at in
    let first : 0 < length workers = omega (arith, within) in
    let reached = stands_for_reached g (begun_of workers) (teams_of workers) ranks.sound ranks.limits.some_station (workers_are_teams workers are) rest.met (live_of workers).ranks ranks (are.each 0 first).reached in
    let few = fired-le g (state_among g (teams_of workers)) (reached_is_consistent g (state_among g (teams_of workers)) reached) in
    omega (arith, sym turn, is, rest.pace.1 t 0 (omega (arith, seat.0, length-map-range_with_len U 0 (stations g))), few, ranks.limits.small_table)

-- the line after a burst, as its fields show it
pub line_after : (items lent new after : List LineWorker) (made f s : ℕ) (old : WorkLine) → lent ≡ items → after ≡ new → line_of items made ≡ old → AreAtRest items made → WorkersBurst lent new → firing_count (state_among (graph_of lent) (teams_of new)) ≡ firing_count (state_among (graph_of lent) (teams_of lent)) + f → sum (turns_among (graph_of lent) (teams_of new)) ≡ sum (turns_among (graph_of lent) (teams_of lent)) + s → LineBurst old (line_of after made) f s × AreAtRest after made
line_after items lent new after made f s old is_items is_new view rest burst fired_is steps_is =
    let b : WorkersBurst items new = subst (λ (l : List LineWorker). WorkersBurst l new) is_items burst in
    let f_is = subst (λ (l : List LineWorker). firing_count (state_among (graph_of l) (teams_of new)) ≡ firing_count (state_among (graph_of l) (teams_of l)) + f) is_items fired_is in
    let s_is = subst (λ (l : List LineWorker). sum (turns_among (graph_of l) (teams_of new)) ≡ sum (turns_among (graph_of l) (teams_of l)) + s) is_items steps_is in (
      subst (λ (o : WorkLine). LineBurst o (line_of after made) f s) view (
          subst (λ (l : List LineWorker). LineBurst (line_of items made) (line_of l made) f s) (sym is_new) (
          burst_of_line items new made rest b f s f_is s_is)),
      subst (λ (l : List LineWorker). AreAtRest l made) (sym is_new) (at_rest_again items new made rest b f s f_is s_is),
    )

-- the graph and the number of workers stay
pub stays_of : (items lent new after : List LineWorker) → lent ≡ items → after ≡ new → AreWorkers items → WorkersBurst lent new → (graph_of after ≡ graph_of items) × (length after ≡ length items)
stays_of items lent new after is_items is_new are burst =
    let b : WorkersBurst items new = subst (λ (l : List LineWorker). WorkersBurst l new) is_items burst in (
      ap graph_of is_new ∙ ap (λ (l : LiveGraph). l.graph) (same-live items new are b),
      ap (λ (l : List LineWorker). length l) is_new ∙ b.same.count,
    )

-- What the logs of a run say of its state.
use Rattle.std.proofs.Common.{◌≡◌, ◌≢◌, ℕ, zero, suc, ◌+◌, ◌-◌, ◌<◌, ◌≤◌, false, eqb, List, [], ◌∷◌, ◌++◌, drop, take, replicate, map, length, get_or, set, refl, sym, ap, ◌∙◌, subst, arith, ⊎_elim}
use Rattle.std.specs.List.{All, sum_by, range_with_len}
use Rattle.std.proofs.lemmas.Bool.{cases_lt, cases_eq, ne_eqb, cond-false, cond-true, eq-eqb}
use Rattle.std.proofs.lemmas.List.{get_or-map, length-map, map-set, length-drop, get_or_past, get_or_append_left, get_or-append_right, get_or-replicate, length-replicate, get_or-set_same, get_or-set_other, take_all, drop-map, drop-append-le, drop_all, drop-drop}
use Rattle.std.proofs.lemmas.List.FromFn.{fill_by_all}
use Rattle.std.proofs.lemmas.List.Sums.{sum_by-cons}
use Rattle.line_base.specs.declared.event.Arc.{Arc}
use Rattle.line_base.specs.declared.event.Parts.{Parts}
use Rattle.line_base.specs.Roomy.{RoomyLog, RoomyLogs, log_at, dates_of, with_date}
use Rattle.event_graph.specs.Network.{stations, jobs, arc, arc_count, demand, delay, ins, IsGraph}
use Rattle.event_graph.specs.Limits.{IsWithinLimits}
use Rattle.event_graph.specs.Table.{date_in}
use Rattle.event_graph.specs.Least.{IsLeast}
use Rattle.event_graph.specs.Term.{work}
use Rattle.event_graph.specs.State.{State, log, place, start}
use Rattle.event_graph.specs.Firing.{CanFire, new_date, after}
use Rattle.event_graph.specs.GreatestValue.{greatest}
use Rattle.event_graph.specs.Reached.{Reached, begins, fires}
use Rattle.line_core.specs.Consistent.{all_tokens, state_of, IsConsistent, IsFinished, LATEST_DATE}
use Rattle.line_core.specs.ArcTokens.{tokens_of, HasRoom, FillsCircuits}
use Rattle.line_core.specs.Run.{Run, run_of, fired_at, first_run, IsReached, IsRunWithRoom, IsLeastTable}
use Rattle.line_core.proofs.ArcTokens.{length-all_tokens}
use Rattle.line_core.proofs.Consistency.{date_by_tokens, new_date-by_tokens, held_now, start_is_consistent, reached_is_consistent}
use Rattle.line_core.proofs.Bounds.{fired-le, reached_is_within}
use Rattle.event_graph.proofs.Places.{circuit_keeps_number}
use Rattle.line_core.proofs.Solution.{finished_is_least}
use Rattle.event_graph.proofs.GreatestTerms.{greatest_of_terms}
use Rattle.line_core.proofs.LastFirings.{state_of-logs}

-- the state of a run's logs
abbrev pub state_in : Parts → RoomyLogs → State
state_in g logs = state_of g (dates_of logs)

pub logs-state_of : (g : Parts) (logs : List (List ℕ)) → (state_of g logs).logs ≡ logs
unfolding state_of
logs-state_of g logs = refl

-- the dates of a log
pub get_or-dates_of : (logs : RoomyLogs) (t : ℕ) → get_or (dates_of logs) t [] ≡ (log_at logs t).dates
get_or-dates_of logs t =
    let none : RoomyLog = record { dates = []; room = 0 } in
    let dates = λ (l : RoomyLog). l.dates in
    ⊎_elim
    (λ there. get_or-map dates logs.logs t none [] there)
    (λ past. get_or_past (dates_of logs) t [] (omega (arith, length-map logs.logs dates)) ∙ sym (ap dates (get_or_past logs.logs t none past)))
    (cases_lt t (length logs.logs))

pub log-state_in : (g : Parts) (logs : RoomyLogs) (t : ℕ) → log (state_in g logs) t ≡ (log_at logs t).dates
log-state_in g logs t = ap (λ l. get_or l t []) (logs-state_of g (dates_of logs)) ∙ get_or-dates_of logs t

-- the dates of the log where arc a starts, as they are read
pub dates_read : (g : Parts) (logs : RoomyLogs) (a : ℕ) (x : Arc) (log : RoomyLog) (dates : List ℕ) → dates ≡ log.dates → log ≡ log_at logs x.from → x ≡ arc g a → dates ≡ get_or (dates_of logs) (arc g a).from []
dates_read g logs a x log dates read at is =
    read ∙ ap (λ (l : RoomyLog). l.dates) at ∙ ap (λ (y : Arc). (log_at logs y.from).dates) is ∙ sym (get_or-dates_of logs (arc g a).from)

-- a log of these dates with this room
abbrev pub log_of : ℕ → List ℕ → RoomyLog
log_of room dates = record { dates = dates; room = room }

pub dates-log_of : (room : ℕ) (lists : List (List ℕ)) → map (λ (l : RoomyLog). l.dates) (map (log_of room) lists) ≡ lists
dates-log_of room [] = refl
dates-log_of room (dates ∷ lists) = ap (λ l. dates ∷ l) (dates-log_of room lists)

pub room-log_of : (room : ℕ) (lists : List (List ℕ)) → All (λ (l : RoomyLog). l.room ≡ room) (map (log_of room) lists)
room-log_of room [] k d low = absurd (omega arith)
room-log_of room (dates ∷ lists) zero d low = refl
room-log_of room (dates ∷ lists) (suc k) d low = room-log_of room lists k d (omega arith)

-- ---- the tokens that an arc has held, by the logs alone

pub length-tokens : (g : Parts) (logs : List (List ℕ)) (a : ℕ) → length (all_tokens g logs a) ≡ (arc g a).tokens + length (get_or logs (arc g a).from [])
length-tokens g logs a = length-all_tokens g (record { logs = logs; places = [] }) a

pub token-initial : (g : Parts) (logs : List (List ℕ)) (a k : ℕ) → k < (arc g a).tokens → get_or (all_tokens g logs a) k 0 ≡ 0
unfolding all_tokens
token-initial g logs a k early =
    let later = λ (date : ℕ). date + delay g a in
    get_or_append_left (replicate (arc g a).tokens 0) (map later (get_or logs (arc g a).from [])) 0 k (omega (arith, length-replicate {A = ℕ} (arc g a).tokens 0))
    ∙ get_or-replicate (arc g a).tokens k 0 0 early

pub token-put : (g : Parts) (logs : List (List ℕ)) (a k : ℕ) → (arc g a).tokens ≤ k → k < length (all_tokens g logs a) → get_or (all_tokens g logs a) k 0 ≡ get_or (get_or logs (arc g a).from []) (k - (arc g a).tokens) 0 + delay g a
unfolding all_tokens
token-put g logs a k late low =
    let later = λ (date : ℕ). date + delay g a in
    let many = length-tokens g logs a in
    get_or-append_right (replicate (arc g a).tokens 0) (map later (get_or logs (arc g a).from [])) (arc g a).tokens k 0 (length-replicate (arc g a).tokens 0) late
    ∙ get_or-map later (get_or logs (arc g a).from []) (k - (arc g a).tokens) 0 0 (omega arith)

-- the date that token k of an arc, counted from 0, asks of job k + 1
unfoldable pub asks : Parts → RoomyLogs → ℕ → ℕ → ℕ
asks g logs k a = work g a (k + 1) + get_or (all_tokens g (dates_of logs) a) k 0

pub asks-is : (g : Parts) (logs : RoomyLogs) (k a : ℕ) → work g a (k + 1) + get_or (all_tokens g (dates_of logs) a) k 0 ≡ asks g logs k a
unfolding asks
asks-is g logs k a = refl

-- ---- reached states

-- a state that firings reach in a sound graph within its limits
pub is_reached : (g : Parts) (s : State) → IsGraph g → IsWithinLimits g → Reached g s → IsReached (record { graph = g; state = s })
is_reached g s sound limits reached = record {
  sound = sound;
  limits = limits;
  reached = reached;
  early = reached_is_within g s limits reached;
  circuits = circuit_keeps_number g s reached;
}

-- ---- the start

dates-empty : (n room : ℕ) → map (λ (l : RoomyLog). l.dates) (replicate n (record { dates = []; room = room })) ≡ replicate n []
dates-empty zero room = refl
dates-empty (suc n) room = ap (λ l. [] ∷ l) (dates-empty n room)

logs-start : (g : Parts) → (start g).logs ≡ replicate (stations g) []
unfolding start
logs-start g = refl

-- where no station has made a date, the run has begun
pub run_of-start : (g : Parts) (logs : RoomyLogs) → dates_of logs ≡ replicate (stations g) [] → run_of g logs ≡ first_run g
run_of-start g logs none =
    ap (λ s. record { graph = g; state = s }) (
    ap (state_of g) (none ∙ sym (logs-start g)) ∙ sym (state_of-logs g (start g) (start_is_consistent g)))

-- empty logs, one for each station, with room for a date of each job
abbrev pub empty_ones : ℕ → ℕ → ℕ → RoomyLogs
empty_ones n room many = record { logs = replicate n (record { dates = []; room = room }); room = many }

pub dates-empty_ones : (n room many : ℕ) → dates_of (empty_ones n room many) ≡ replicate n []
dates-empty_ones n room many = dates-empty n room

pub held-start : (g : Parts) (logs : RoomyLogs) → IsGraph g → IsWithinLimits g → logs ≡ empty_ones (stations g) (jobs g) (stations g) → IsRunWithRoom g logs
held-start g logs sound limits is =
    let none : RoomyLog = record { dates = []; room = 0 } in
    let begins_here = run_of-start g logs (ap dates_of is ∙ dates-empty (stations g) (jobs g)) in
    record {
      run = subst IsReached (sym begins_here) (is_reached g (start g) sound limits begins);
      room = λ t there.
          let at = ap (λ (l : RoomyLogs). (log_at l t).room) is ∙ ap (λ (l : RoomyLog). l.room) (get_or-replicate (stations g) t (record { dates = []; room = jobs g }) none there) in
          omega (arith, at);
    }

-- a run that firings reach with logs that have room
pub held_from : (g : Parts) (logs : RoomyLogs) → IsGraph g → IsWithinLimits g → Reached g (state_in g logs) → HasRoom g logs → IsRunWithRoom g logs
held_from g logs sound limits reached room = record {
  run = is_reached g (state_in g logs) sound limits reached;
  room = room;
}

-- ---- the tokens on an arc

-- what is left of the tokens when more than those of the start were taken
pub tokens-put : (initial delay taken : ℕ) (dates : List ℕ) → initial ≤ taken → map (λ date. date + delay) (take (length dates - (taken - initial)) (drop (taken - initial) dates)) ≡ drop taken (tokens_of initial dates delay)
tokens-put initial delay taken dates late =
    let later = λ (date : ℕ). date + delay in
    let rest = drop (taken - initial) dates in
    let whole : initial + (taken - initial) ≡ taken = omega arith in
    ap (map later) (take_all (length dates - (taken - initial)) rest (omega (arith, length-drop (taken - initial) dates)))
    ∙ sym (drop-map later (taken - initial) dates)
    ∙ sym (ap (drop (taken - initial)) (drop-append-le initial (replicate initial 0) (map later dates) (omega (arith, length-replicate {A = ℕ} initial 0)) ∙ ap (λ l. l ++ map later dates) (drop_all initial (replicate initial 0) (omega (arith, length-replicate {A = ℕ} initial 0)))))
    ∙ drop-drop (taken - initial) initial (tokens_of initial dates delay)
    ∙ ap (λ n. drop n (tokens_of initial dates delay)) whole

-- the lengths of the places, read by number
pub lengths-read : (s : State) (a : ℕ) → get_or (map length s.places) a 0 ≡ length (place s a)
lengths-read s a =
    ⊎_elim
    (λ there. get_or-map length s.places a [] 0 there)
    (λ past. get_or_past (map length s.places) a 0 (omega (arith, length-map s.places (length {A = ℕ}))) ∙ sym (ap length (get_or_past s.places a [] past)))
    (cases_lt a (length s.places))

sum_by-same : (f h : ℕ → ℕ) (xs : List ℕ) → ((x : ℕ) → f x ≡ h x) → sum_by f xs ≡ sum_by h xs
sum_by-same f h [] same = refl
sum_by-same f h (x ∷ xs) same =
    omega (arith, sum_by-cons f x xs, sum_by-cons h x xs, same x, sum_by-same f h xs same)

-- by the lengths of its places each circuit of a reached state has its tokens
pub fills_circuits : (r : Run) → IsReached r → FillsCircuits r.graph (map length r.state.places)
fills_circuits r reached arcs circuit =
    sum_by-same (λ a. get_or (map length r.state.places) a 0) (λ a. length (place r.state a)) arcs (lengths-read r.state)
    ∙ reached.circuits arcs circuit

module _ (g : Parts) (logs : RoomyLogs) (held : IsRunWithRoom g logs) where
  pub consistent : IsConsistent g (state_in g logs)
  consistent = reached_is_consistent g (state_in g logs) held.run.reached

  pub many_logs : length logs.logs ≡ stations g
  many_logs =
      sym (length-map logs.logs (λ (l : RoomyLog). l.dates))
      ∙ sym (ap length (logs-state_of g (dates_of logs)))
      ∙ consistent.a_log_each

  -- no log is too long, and no date of a log is late
  pub few_dates : (t : ℕ) → t < stations g → length (get_or (dates_of logs) t []) ≤ jobs g
  few_dates t there =
      omega (arith, consistent.few_dates t there, ap (λ l. length (get_or l t [])) (logs-state_of g (dates_of logs)))

  pub early_date : (t k : ℕ) → t < stations g → k < length (get_or (dates_of logs) t []) → get_or (get_or (dates_of logs) t []) k 0 ≤ LATEST_DATE
  early_date t k there =
      subst
      (λ l. k < length (get_or l t []) → get_or (get_or l t []) k 0 ≤ LATEST_DATE)
      (logs-state_of g (dates_of logs))
      (held.run.early.logs t there k 0)

  -- the tokens on an arc are those that were put on it and not taken
  pub length-place : (a : ℕ) → a < arc_count g → length (place (state_in g logs) a) + length (log (state_in g logs) (arc g a).to) ≡ (arc g a).tokens + length (log (state_in g logs) (arc g a).from)
  length-place a there =
      let s = state_in g logs in
      let left = ap length (consistent.places_are_left a there) ∙ length-drop (length (log s (arc g a).to)) (all_tokens g s.logs a) in
      omega (arith, left, length-all_tokens g s a, consistent.tokens_suffice a there)

  -- no place has many tokens
  pub few_tokens : (a : ℕ) → a < arc_count g → length (place (state_in g logs) a) ≤ 30_000
  few_tokens a there =
      let from = (arc g a).from in
      let made = ap (λ l. length (get_or l from [])) (logs-state_of g (dates_of logs)) in
      omega (arith, length-place a there, made, few_dates from (held.run.sound.starts_exist a there), held.run.limits.few_jobs, held.run.limits.few_tokens a (record { from = 0; to = 0; tokens = 0; worked = false }) there)

  -- the lengths of the places, counted arc by arc
  pub lengths : map (λ a. length (place (state_in g logs) a)) (range_with_len 0 (arc_count g)) ≡ map length (state_in g logs).places
  lengths =
      let s = state_in g logs in
      sym (
      fill_by_all
      (λ a. length (place s a))
      (map length s.places)
      (arc_count g)
      0
      (length-map s.places length ∙ consistent.a_place_each)
      (λ a there. lengths-read s a))

  -- no more firings were made than a table has dates
  pub few_firings : sum_by length (dates_of logs) ≤ 1_000_000
  few_firings =
      omega (arith, ap (sum_by length) (logs-state_of g (dates_of logs)), fired-le g (state_in g logs) consistent, held.run.limits.small_table)

  -- ---- a firing of station t

  module _ (t : ℕ) (can : CanFire g (state_in g logs) t) where
    -- each of its arcs has held the token that is taken
    pub has_held : (a : ℕ) → a < arc_count g → (arc g a).to ≡ t → length (log (state_in g logs) t) < length (all_tokens g (dates_of logs) a)
    has_held a there ends =
        subst
        (λ l. length (log (state_in g logs) t) < length (all_tokens g l a))
        (logs-state_of g (dates_of logs))
        (held_now g (state_in g logs) t consistent can a there ends)

    pub new_date-feed : t ≡ 0 → new_date g (state_in g logs) t ≡ demand g (length (log (state_in g logs) t) + 1)
    unfolding new_date
    new_date-feed feed = cond-true (eqb t 0) _ _ (eq-eqb t 0 feed)

    pub new_date-other : t ≢ 0 → new_date g (state_in g logs) t ≡ greatest (asks g logs (length (log (state_in g logs) t))) (ins g t)
    unfolding date_by_tokens asks
    new_date-other other =
        let k = length (log (state_in g logs) t) in
        new_date-by_tokens g (state_in g logs) t consistent can
        ∙ cond-false (eqb t 0) _ _ (ne_eqb t 0 other)
        ∙ ap (λ l. greatest (λ a. work g a (k + 1) + get_or (all_tokens g l a) k 0) (ins g t)) (logs-state_of g (dates_of logs))

    -- the logs with the new date
    new_logs : RoomyLogs
    new_logs = record { logs = set logs.logs t (with_date (log_at logs t) (new_date g (state_in g logs) t)); room = logs.room }

    dates-new_logs : dates_of new_logs ≡ (after g (state_in g logs) t).logs
    unfolding after new_logs
    dates-new_logs =
        let s = state_in g logs in
        let date = new_date g s t in
        map-set (λ (l : RoomyLog). l.dates) logs.logs t (with_date (log_at logs t) date)
        ∙ ap (λ l. set (dates_of logs) t (l ++ date ∷ [])) (sym (log-state_in g logs t))
        ∙ ap (λ l. set l t (log s t ++ date ∷ [])) (sym (logs-state_of g (dates_of logs)))

    pub reached-after : IsReached (fired_at (run_of g logs) t)
    reached-after =
        is_reached g (after g (state_in g logs) t) held.run.sound held.run.limits (fires (state_in g logs) t held.run.reached can)

    -- they are those of the run after the firing
    run-fired : run_of g new_logs ≡ fired_at (run_of g logs) t
    run-fired =
        let next = after g (state_in g logs) t in
        ap (λ s. record { graph = g; state = s }) (
        ap (state_of g) dates-new_logs ∙ sym (state_of-logs g next (reached_is_consistent g next reached-after.reached)))

    room-fired : (u : ℕ) → u < stations g → jobs g ≤ (log_at new_logs u).room
    unfolding new_logs
    room-fired u there =
        let none : RoomyLog = record { dates = []; room = 0 } in
        let date = new_date g (state_in g logs) t in
        let known : t < length logs.logs = omega (arith, many_logs, can.exists) in
        ⊎_elim
        (λ same. omega (arith, held.room u there, ap (λ v. (log_at logs v).room) same, ap (λ v. (get_or (set logs.logs t (with_date (log_at logs t) date)) v none).room) same, ap (λ (l : RoomyLog). l.room) (get_or-set_same logs.logs t (with_date (log_at logs t) date) none known)))
        (λ other. omega (arith, held.room u there, ap (λ (l : RoomyLog). l.room) (get_or-set_other logs.logs t u (with_date (log_at logs t) date) none other)))
        (cases_eq u t)

    pub held-fired : (new : RoomyLogs) (date : ℕ) → date ≡ new_date g (state_in g logs) t → new ≡ record { logs = set logs.logs t (with_date (log_at logs t) date); room = logs.room } → IsRunWithRoom g new
    unfolding new_logs
    held-fired new date due is =
        let same : new ≡ new_logs = is ∙ ap (λ d. record { logs = set logs.logs t (with_date (log_at logs t) d); room = logs.room }) due in
        subst (IsRunWithRoom g) (sym same) (record { run = subst IsReached (sym run-fired) reached-after; room = room-fired })

    pub run_of-fired : (new : RoomyLogs) (date : ℕ) → date ≡ new_date g (state_in g logs) t → new ≡ record { logs = set logs.logs t (with_date (log_at logs t) date); room = logs.room } → run_of g new ≡ fired_at (run_of g logs) t
    unfolding new_logs
    run_of-fired new date due is =
        ap (run_of g) (is ∙ ap (λ d. record { logs = set logs.logs t (with_date (log_at logs t) d); room = logs.room }) due) ∙ run-fired

  -- ---- the end

  no_date_late : (t n : ℕ) → date_in (state_in g logs).logs t n ≤ LATEST_DATE
  no_date_late t zero = omega arith
  no_date_late t (suc k) =
      let s = state_in g logs in
      let many = consistent.a_log_each in
      ⊎_elim
      (λ there.
      ⊎_elim
      (λ low. held.run.early.logs t there k 0 low)
      (λ past. omega (arith, get_or_past (log s t) k 0 past))
      (cases_lt k (length (log s t))))
      (λ past. omega (arith, ap (λ l. get_or l k 0) (get_or_past s.logs t [] (omega arith)), get_or_past {X = ℕ} [] k 0 (omega arith)))
      (cases_lt t (stations g))

  pub least_table : IsFinished g (state_in g logs) → IsLeastTable (record { graph = g; rows = dates_of logs })
  least_table finished =
      let s = state_in g logs in
      let same = logs-state_of g (dates_of logs) in
      let least : IsLeast g (date_in (dates_of logs)) = subst (λ l. IsLeast g (date_in l)) same (finished_is_least g s held.run.limits.some_station held.run.sound held.run.reached finished) in
      record {
        sound = held.run.sound;
        limits = held.run.limits;
        a_row_each = ap length (sym same) ∙ consistent.a_log_each;
        a_date_each = λ t there. ap (λ l. length (get_or l t [])) (sym same) ∙ finished t there;
        early = λ t n. subst (λ l. date_in l t n ≤ LATEST_DATE) same (no_date_late t n);
        least = least;
        greatest = greatest_of_terms g (date_in (dates_of logs)) held.run.sound least;
      }

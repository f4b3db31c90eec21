-- Workers that sweep, each in a thread of its own.
use Rattle.std.proofs.Common.{◌≡◌, ℕ, ◌+◌, ◌<◌, List, [], ◌∷◌, ◌++◌, take, length, get_or, refl, sym, ap, subst, ◌∙◌, arith, ⊎_elim}
use Rattle.std.specs.List.{All, Any}
use Rattle.std.proofs.lemmas.Bool.{cases_lt}
use Rattle.std.proofs.lemmas.List.{get_or_append_left, get_or_push, get_or_default, length_push}
use Rattle.std.proofs.lemmas.List.Elements.{All-from_get_or}
use Rattle.event_graph.specs.State.{log}
use Rattle.live_check.specs.Order.{LiveGraph}
use Rattle.line_worker.specs.Teams.{state_among}
use Rattle.line_worker.specs.Worker.{LineWorker, IsWorker, with_team, teams_of}
use Rattle.line_worker.specs.Team.{WorkTeam, member, no_station}
use Rattle.line_worker.specs.Work.{turns_of, HasSwept, AllDone, TurnsBelow}
use Rattle.line_worker.specs.Workers.{worker_at, no_worker, live_of, graph_of, room_of, AreWorkers}
use Rattle.line_workers.specs.Gather.{logs_in, IsWorkerAfter, AreWorkersAfter}
use Rattle.line_workers.specs.Line.{WorkLine, IsLine, LogsGrow, StandsIn}
use Rattle.line_workers.specs.OfWorkers.{line_of}
use Rattle.line_worker.proofs.WorkedTeams.{idle_team}
use Rattle.line_workers.proofs.AfterSweeps.{after_more, logs_grow}
use Rattle.line_runs.specs.Standing.{GoesOn}
use Rattle.line_runs.specs.Sweeping.{IsWorkerFor, IsMostTurns}

-- ---- workers after sweeps

pub workers_are_for : (live : LiveGraph) (workers : List LineWorker) → AreWorkers workers → live ≡ live_of workers → All (IsWorkerFor live) workers
workers_are_for live workers are made_for =
    All-from_get_or (IsWorkerFor live) workers no_worker (λ w there. record { worker = are.each w there; live_is = made_for ∙ sym (are.lives w there) })

pub as_it_is : (c : LineWorker) → IsWorker c → IsWorkerAfter c c
as_it_is c is = record { same = record { worker = is; frame = refl }; worked = idle_team c.team }

pub as_they_are : (live : LiveGraph) (workers : List LineWorker) → All (IsWorkerFor live) workers → AreWorkersAfter workers workers
as_they_are live workers are = record { count = refl; each = λ w there. as_it_is (worker_at workers w) (are w no_worker there).worker }

-- the last worker of a list, and those before it
pub one_fewer : (workers rest : List LineWorker) (c : LineWorker) → workers ≡ rest ++ c ∷ [] → length rest < length workers
one_fewer workers rest c is = omega (arith, ap length is, length_push rest c)

pub last_is_for : (live : LiveGraph) (workers rest : List LineWorker) (c : LineWorker) → All (IsWorkerFor live) workers → workers ≡ rest ++ c ∷ [] → IsWorkerFor live c
last_is_for live workers rest c are is =
    let low : length rest < length workers = omega (arith, ap length is, length_push rest c) in
    subst (IsWorkerFor live) (ap (λ (l : List LineWorker). worker_at l (length rest)) is ∙ get_or_push rest c no_worker (length rest) refl) (are (length rest) no_worker low)

pub rest_are_for : (live : LiveGraph) (workers rest : List LineWorker) (c : LineWorker) → All (IsWorkerFor live) workers → workers ≡ rest ++ c ∷ [] → All (IsWorkerFor live) rest
rest_are_for live workers rest c are is =
    λ k d there.
    let low : k < length workers = omega (arith, there, ap length is, length_push rest c) in
    subst (IsWorkerFor live) (ap (λ (l : List LineWorker). get_or l k d) is ∙ get_or_append_left rest (c ∷ []) d k there) (are k d low)

-- one more worker comes back behind those that have
pub one_more : (old new : List LineWorker) (was is : LineWorker) → AreWorkersAfter old new → IsWorkerAfter was is → AreWorkersAfter (old ++ was ∷ []) (new ++ is ∷ [])
one_more old new was is after swept = record {
  count = omega (arith, after.count, length_push old was, length_push new is);
  each = λ w there.
      ⊎_elim
      (λ before.
      let before_new : w < length new = omega (arith, before, after.count) in
      subst (λ (c : LineWorker). IsWorkerAfter c (worker_at (new ++ is ∷ []) w)) (sym (get_or_append_left old (was ∷ []) no_worker w before)) (
      subst (IsWorkerAfter (worker_at old w)) (sym (get_or_append_left new (is ∷ []) no_worker w before_new)) (after.each w before)))
      (λ past.
      let last : length old ≡ w = omega (arith, past, there, length_push old was) in
      let last_new : length new ≡ w = omega (arith, last, after.count) in
      subst (λ (c : LineWorker). IsWorkerAfter c (worker_at (new ++ is ∷ []) w)) (sym (get_or_push old was no_worker w last)) (
      subst (IsWorkerAfter was) (sym (get_or_push new is no_worker w last_new)) swept))
      (cases_lt w (length old));
}

-- ---- one worker in its thread

pub sweep_more : (was now next : LineWorker) → IsWorkerAfter was now → IsWorker next → next ≡ with_team now next.team → HasSwept now.team next.team → IsWorkerAfter was next
sweep_more was now next after is frame swept =
    after_more was now next after (record { same = record { worker = is; frame = frame }; worked = swept.worked })

-- ---- how many turns its stations have made

any_turns : (team : WorkTeam) (k n : ℕ) → k < length team.stations → turns_of (member team.stations k) ≡ n → Any (λ s. turns_of s ≡ n) team.stations
any_turns team k n low is =
    (k, member team.stations k, low, get_or_default team.stations k (member team.stations k) no_station low, is)

-- where no station has more turns than this, none has as many as this and one more
pub turns_below : (team : WorkTeam) (turns most : ℕ) → IsMostTurns team turns → turns < most → TurnsBelow most team
turns_below team turns most is low i there = omega (arith, is.most i there, low)

-- and where each has fewer than that, so has the one that has most
pub most_below : (team : WorkTeam) (turns most : ℕ) → 0 < most → IsMostTurns team turns → TurnsBelow most team → turns < most
most_below team turns most some is below =
    ⊎_elim
    (λ none. omega (arith, none, some))
    (λ any.
    let found = is.one (omega (arith, any)) in
    let at = get_or_default team.stations found.0 no_station found.1 found.2 ∙ found.3 in
    omega (arith, below found.0 found.2, ap turns_of at, found.4))
    (cases_lt turns 1)

-- a sweep gives each station one turn
pub one_turn_more : (c : LineWorker) (next : WorkTeam) (turns : ℕ) → ¬ AllDone c.target c.team → IsMostTurns c.team turns → HasSwept c.team next → IsMostTurns next (turns + 1)
one_turn_more c next turns undone is swept =
    let old = c.team in
    let count : length next.stations ≡ length old.stations = swept.worked.count in
    record {
      most = λ i low. let there : i < length old.stations = omega (arith, low, count) in omega (arith, swept.turned i there, is.most i there);
      one = λ _.
          ⊎_elim
          (λ none.
          ⊎_elim
          (λ empty. absurd (undone (λ i low. absurd (omega (arith, low, empty)))))
          (λ some.
          let first : 0 < length old.stations = omega (arith, some) in
          any_turns next 0 (turns + 1) (omega (arith, first, count)) (omega (arith, swept.turned 0 first, is.most 0 first, none)))
          (cases_lt (length old.stations) 1))
          (λ any.
          let found = is.one (omega (arith, any)) in
          let at = get_or_default old.stations found.0 no_station found.1 found.2 ∙ found.3 in
          any_turns next found.0 (turns + 1) (omega (arith, found.2, count)) (omega (arith, swept.turned found.0 found.2, ap turns_of at, found.4)))
          (cases_lt turns 1);
    }

-- ---- the line of workers after sweeps

pub live_after : (old new : List LineWorker) → AreWorkers old → AreWorkersAfter old new → live_of new ≡ live_of old
live_after old new are after =
    let some : 0 < length old = omega (arith, are.some) in
    ap (λ (c : LineWorker). c.live) (after.each 0 some).same.frame

room_after : (old new : List LineWorker) → AreWorkers old → AreWorkersAfter old new → room_of new ≡ room_of old
room_after old new are after =
    let some : 0 < length old = omega (arith, are.some) in
    ap (λ (c : LineWorker). c.room) (after.each 0 some).same.frame

pub gathered_goes_on : (live : LiveGraph) (line later : WorkLine) (old new : List LineWorker) → AreWorkers old → line_of old line.made ≡ line → live ≡ line.live → AreWorkersAfter old new → IsLine later → later.state.logs ≡ logs_in new → StandsIn (room_of new) live later.state (length new) later → GoesOn line later
gathered_goes_on live line later old new are is made_for after sound logs stands = record {
  line = sound;
  live = stands.live_is ∙ made_for;
  worker_count = stands.workers_are ∙ after.count ∙ ap (λ (l : WorkLine). l.worker_count) is;
  room = stands.room_is ∙ room_after old new are after ∙ ap (λ (l : WorkLine). l.room) is;
  logs =
      let g = graph_of old in
      let before = state_among g (teams_of old) in
      let same : later.state.logs ≡ (state_among g (teams_of new)).logs =
      logs ∙ ap (λ (v : LiveGraph). (state_among v.graph (teams_of new)).logs) (live_after old new are after) in
      let grown : LogsGrow g before later.state =
      λ t there. ap (λ (l : List (List ℕ)). take (length (log before t)) (get_or l t [])) same ∙ logs_grow old new are after t there in
      subst (λ (l : WorkLine). LogsGrow l.live.graph l.state later.state) is grown;
}

-- The workers of a new line, one after the other.
use Rattle.std.proofs.Common.{◌≡◌, ℕ, ◌+◌, ◌<◌, ◌≤◌, List, [], ◌∷◌, ◌++◌, Option, Some, None, drop, length, get_or, refl, ap, ◌∙◌, sym, subst, arith, ⊎_elim, length-append, add-zero}
use Rattle.std.specs.Prelude.{IfSome}
use Rattle.std.proofs.lemmas.Bool.{cases_lt}
use Rattle.std.proofs.lemmas.List.{get_or-drop, get_or_append_left, get_or_push, length-drop, drop-drop, get_or_default, ext_get_or}
use Rattle.line_base.specs.declared.event.Parts.{Parts}
use Rattle.event_graph.specs.Network.{stations, arc_count}
use Rattle.event_graph.specs.State.{State}
use Rattle.live_check.specs.Order.{LiveGraph}
use Rattle.line_worker.specs.Share.{first_of}
use Rattle.line_worker.specs.Team.{WorkTeam, IsTeam}
use Rattle.line_worker.specs.Teams.{team_at, IsJoined, AreOfRoom, AreTeams, AreAllMet, HaveBegun}
use Rattle.line_setup.specs.Making.{MayHold}
use Rattle.line_worker.specs.Worker.{LineWorker, teams_of}
use Rattle.line_worker.specs.Workers.{worker_at, no_worker, live_of, begun_of, room_of}
use Rattle.line_setup.specs.NewWorkers.{IsNewWorker, AreNewWorkers, AreMakingWorkers}
use Rattle.line_worker.proofs.WorkerTeams.{count-teams, team_at-workers}

-- where rings have room it is some
pub held_some : (room : Option ℕ) (g : Parts) (begun : State) → MayHold room g begun → IfSome room (λ n. 1 ≤ n)
held_some None g begun held = tt
held_some (Some room) g begun held = held.some

module _ (live : LiveGraph) (begun : State) (worker_count : ℕ) (room : Option ℕ) (teams : List WorkTeam) where
  pub making_begins : AreMakingWorkers live begun worker_count room teams teams [] 0
  making_begins = record { count = refl; left_is = refl; each = λ w low. absurd (omega arith) }

  module _ (count : length teams ≡ worker_count) where
    -- where a team is left, fewer workers are made than all
    pub some-taken : (left rest : List WorkTeam) (workers : List LineWorker) (made : ℕ) (team : WorkTeam) → AreMakingWorkers live begun worker_count room teams left workers made → left ≡ team ∷ rest → made < worker_count
    some-taken left rest workers made team inv is = omega (arith, ap length is, ap length inv.left_is, length-drop made teams, count)

    -- where none is left, all are made
    pub none-left : (left : List WorkTeam) (workers : List LineWorker) (made : ℕ) → AreMakingWorkers live begun worker_count room teams left workers made → length left ≡ 0 → made ≤ worker_count → made ≡ worker_count
    none-left left workers made inv none few = omega (arith, none, ap length inv.left_is, length-drop made teams, count, few)

    -- what the next worker takes
    pub next-team : (left : List WorkTeam) (workers : List LineWorker) (made : ℕ) → AreMakingWorkers live begun worker_count room teams left workers made → made < worker_count → (d : WorkTeam) → get_or left 0 d ≡ team_at teams made
    next-team left workers made inv low d =
        ap (λ (l : List WorkTeam). get_or l 0 d) inv.left_is
        ∙ get_or-drop made teams 0 d
        ∙ ap (λ n. get_or teams n d) (add-zero made)
        ∙ get_or_default teams made d (record { stations = []; shelf = [] }) (omega (arith, count, low))

module _ (live : LiveGraph) (begun : State) (worker_count : ℕ) (room : Option ℕ) (teams : List WorkTeam) (count : length teams ≡ worker_count) (are : AreTeams live.graph begun teams) where
  pub team-fits : (w : ℕ) → w < worker_count → IsTeam live.graph begun (first_of worker_count (stations live.graph) w) (team_at teams w)
  team-fits w low =
      subst (λ n. IsTeam live.graph begun (first_of n (stations live.graph) w) (team_at teams w)) count (are.each w (omega (arith, low, count)))

  pub team-size : (w : ℕ) → w < worker_count → first_of worker_count (stations live.graph) w + length (team_at teams w).stations ≡ first_of worker_count (stations live.graph) (w + 1)
  team-size w low =
      subst (λ n. first_of n (stations live.graph) w + length (team_at teams w).stations ≡ first_of n (stations live.graph) (w + 1)) count (are.sizes w (omega (arith, low, count)))

  pub making_goes_on : (left left' : List WorkTeam) (workers : List LineWorker) (made : ℕ) (worker : LineWorker) → AreMakingWorkers live begun worker_count room teams left workers made → left' ≡ drop 1 left → IsNewWorker live begun worker_count room made (team_at teams made) worker → AreMakingWorkers live begun worker_count room teams left' (workers ++ worker ∷ []) (made + 1)
  making_goes_on left left' workers made worker inv rest new = record {
    count = length-append workers (worker ∷ []) ∙ ap (λ n. n + 1) inv.count;
    left_is =
        rest
        ∙ ap (drop 1) inv.left_is
        ∙ drop-drop 1 made teams;
    each = λ w low.
        let New : LineWorker → Type 0 = IsNewWorker live begun worker_count room w (team_at teams w) in
        ⊎_elim
        (λ early.
        subst New (sym (get_or_append_left workers (worker ∷ []) no_worker w (omega (arith, early, inv.count)))) (inv.each w early))
        (λ late.
        let here : made ≡ w = omega arith in
        let at : worker_at (workers ++ worker ∷ []) w ≡ worker = get_or_push workers worker no_worker w (inv.count ∙ here) in
        subst New (sym at) (subst (λ v. IsNewWorker live begun worker_count room v (team_at teams v) worker) here new))
        (cases_lt w made);
  }

  module _ (some : 1 ≤ worker_count) (some_room : IfSome room (λ n. 1 ≤ n)) (rooms : AreOfRoom room live.graph teams) (met : AreAllMet live.graph teams) (new : HaveBegun live.graph begun teams) (left : List WorkTeam) (workers : List LineWorker) (inv : AreMakingWorkers live begun worker_count room teams left workers worker_count) where
    first : 0 < worker_count
    first = omega (arith, some)

    live-is : live_of workers ≡ live
    live-is = (inv.each 0 first).live_is

    begun-is : begun_of workers ≡ begun
    begun-is = (inv.each 0 first).begun_is

    room-is : room_of workers ≡ room
    room-is = (inv.each 0 first).room_is

    teams-are : teams_of workers ≡ teams
    teams-are =
        ext_get_or
        (record { stations = []; shelf = [] })
        (teams_of workers)
        teams
        (count-teams workers ∙ inv.count ∙ sym count)
        (λ w low.
        let w_low : w < length workers = omega (arith, low, count-teams workers) in
        team_at-workers workers w w_low ∙ (inv.each w (omega (arith, w_low, inv.count))).team_is)

    pub new_workers : AreNewWorkers live begun worker_count room workers
    new_workers = record {
      count = inv.count;
      whole = record {
        some = omega (arith, inv.count, some);
        each = λ w low. (inv.each w (omega (arith, low, inv.count))).worker;
        worker_count = λ w low. (inv.each w (omega (arith, low, inv.count))).workers_are ∙ sym inv.count;
        numbers = λ w low. (inv.each w (omega (arith, low, inv.count))).worker_is;
        lives = λ w low. (inv.each w (omega (arith, low, inv.count))).live_is ∙ sym live-is;
        begun = λ w low. (inv.each w (omega (arith, low, inv.count))).begun_is ∙ sym begun-is;
        joined =
            subst (λ (l : LiveGraph). (a : ℕ) → a < arc_count l.graph → IsJoined l.graph (begun_of workers) (teams_of workers) a) (sym live-is) (
            subst (λ b. (a : ℕ) → a < arc_count live.graph → IsJoined live.graph b (teams_of workers) a) (sym begun-is) (
            subst (λ (ts : List WorkTeam). (a : ℕ) → a < arc_count live.graph → IsJoined live.graph begun ts a) (sym teams-are) are.joined));
        kinds = λ w low. (inv.each w (omega (arith, low, inv.count))).room_is ∙ sym room-is;
        some_room = subst (λ (r : Option ℕ). IfSome r (λ n. 1 ≤ n)) (sym room-is) some_room;
        rooms =
            subst (λ (l : LiveGraph). AreOfRoom (room_of workers) l.graph (teams_of workers)) (sym live-is) (
            subst (λ r. AreOfRoom r live.graph (teams_of workers)) (sym room-is) (
            subst (AreOfRoom room live.graph) (sym teams-are) rooms));
      };
      live_is = live-is;
      begun_is = begun-is;
      room_is = room-is;
      met = subst (AreAllMet live.graph) (sym teams-are) met;
      new = subst (HaveBegun live.graph begun) (sym teams-are) new;
    }

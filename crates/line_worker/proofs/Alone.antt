-- The one worker of its line: in the order of the places each station finds its tokens, round by round.
use Rattle.std.proofs.Common.{◌≡◌, ◌≢◌, ℕ, ◌+◌, ◌-◌, ◌<◌, ◌≤◌, List, [], ◌∷◌, length, get_or, refl, ap, ◌∙◌, sym, subst, arith, ⊎_elim}
use Rattle.std.proofs.lemmas.Bool.{cases_lt}
use Rattle.std.proofs.lemmas.List.{get_or-set_other}
use Rattle.event_graph.specs.Network.{stations, jobs, arc, arc_count}
use Rattle.event_graph.specs.State.{log}
use Rattle.line_core.specs.Round.{IsInRound}
use Rattle.line_core.proofs.RoundLemmas.{can_fire_next}
use Rattle.line_core.proofs.Runs.{is_reached}
use Rattle.station_step.specs.Station.{WorkStation}
use Rattle.station_step.specs.Step.{IsReady}
use Rattle.line_worker.specs.Share.{first_of}
use Rattle.line_worker.specs.Team.{WorkTeam, IsTeam, member, no_station}
use Rattle.line_worker.specs.Teams.{team_at, owner_of, station_of, shelf_of, index_in, IsJoined, AreTeams, AreAllMet, state_among}
use Rattle.line_worker.specs.Worker.{LineWorker, IsWorker, with_team}
use Rattle.line_worker.specs.Work.{dates_of, TeamWorked, TeamsWorked, SteppedAt, IsSweeping, IsAlone}
use Rattle.line_worker.proofs.Share.{first-zero, first-all, worker_number-below}
use Rattle.line_worker.proofs.TeamStates.{stands_for_reached, log-among, can_fire_is_ready}
use Rattle.line_worker.proofs.OutletSpace.{spaces, inside-space}
use Rattle.line_worker.proofs.TeamSweeps.{listed-at_place, place-of_listed}
use Rattle.line_worker.proofs.WorkedTeams.{local_is_met, teams-worked}

-- the worker is the first of one
module _ (c : LineWorker) (is : IsWorker c) (one : c.worker_count ≡ 1) where
  is-first : c.worker_number ≡ 0
  is-first = omega (arith, is.exists, one)

  some : 1 ≤ stations c.live.graph
  some = is.ranked.limits.some_station

  from-zero : c.first ≡ 0
  from-zero =
      is.starts
      ∙ ap (λ n. first_of n (stations c.live.graph) c.worker_number) one
      ∙ ap (first_of 1 (stations c.live.graph)) is-first
      ∙ first-zero 1 (stations c.live.graph) (omega arith) some

  -- it has all stations
  pub all-stations : length c.team.stations ≡ stations c.live.graph
  all-stations =
      let ends : c.first + length c.team.stations ≡ stations c.live.graph =
      is.ends
      ∙ ap (λ n. first_of n (stations c.live.graph) (c.worker_number + 1)) one
      ∙ ap (first_of 1 (stations c.live.graph)) (let next : c.worker_number + 1 ≡ 1 = omega (arith, is-first) in next)
      ∙ first-all 1 (stations c.live.graph) (omega arith) some in
      omega (arith, ends, from-zero)

  pub alone_are_teams : ((a : ℕ) → a < arc_count c.live.graph → IsJoined c.live.graph c.begun (c.team ∷ []) a) → AreTeams c.live.graph c.begun (c.team ∷ [])
  alone_are_teams joined =
      let T = stations c.live.graph in
      let none = first-zero 1 T (omega arith) some in
      let all = first-all 1 T (omega arith) some in
      let Sized : ℕ → Type 0 = λ w. first_of 1 T w + length (team_at (c.team ∷ []) w).stations ≡ first_of 1 T (w + 1) in
      let Manned : ℕ → Type 0 = λ w. IsTeam c.live.graph c.begun (first_of 1 T w) (team_at (c.team ∷ []) w) in
      record {
        some = omega arith;
        sizes = λ w low.
            let zero_w : 0 ≡ w = omega arith in
            subst Sized zero_w (omega (arith, none, all, all-stations));
        each = λ w low.
            let zero_w : 0 ≡ w = omega arith in
            subst Manned zero_w (subst (λ n. IsTeam c.live.graph c.begun n c.team) (from-zero ∙ sym none) is.members);
        joined = joined;
      }

  one-worker_number : (t : ℕ) → t < stations c.live.graph → owner_of c.live.graph (c.team ∷ []) t ≡ 0
  one-worker_number t there = omega (arith, worker_number-below 1 (stations c.live.graph) (omega arith) some t there)

  station-alone : (t : ℕ) → t < stations c.live.graph → station_of c.live.graph (c.team ∷ []) t ≡ member c.team.stations t
  station-alone t there =
      let T = stations c.live.graph in
      let at = one-worker_number t there in
      let none = first-zero 1 T (omega arith) some in
      let same : t - first_of 1 T 0 ≡ t = omega (arith, none) in
      ap (λ w. member (team_at (c.team ∷ []) w).stations (t - first_of 1 T w)) at
      ∙ ap (member c.team.stations) same

  shelf-alone : (t : ℕ) → t < stations c.live.graph → shelf_of c.live.graph (c.team ∷ []) t ≡ c.team.shelf
  shelf-alone t there = ap (λ w. (team_at (c.team ∷ []) w).shelf) (one-worker_number t there)

  alone_met : ((a : ℕ) → a < arc_count c.live.graph → IsJoined c.live.graph c.begun (c.team ∷ []) a) → AreAllMet c.live.graph (c.team ∷ [])
  alone_met joined a listed =
      let sound = is.ranked.sound in
      local_is_met c.live.graph c.begun (c.team ∷ []) a (joined a listed)
      (one-worker_number (arc c.live.graph a).from (sound.starts_exist a listed) ∙ sym (one-worker_number (arc c.live.graph a).to (sound.ends_exist a listed)))

  -- where the stations before place p have fired once more than the others, the one at p is ready
  pub next-ready : ((a : ℕ) → a < arc_count c.live.graph → IsJoined c.live.graph c.begun (c.team ∷ []) a) → (times p : ℕ) → times < jobs c.live.graph → p < length c.order → ((i : ℕ) → i < length c.team.stations → index_in c.order i < p → dates_of (member c.team.stations i) ≡ times + 1) → ((i : ℕ) → i < length c.team.stations → p ≤ index_in c.order i → dates_of (member c.team.stations i) ≡ times) → IsReady c.team.shelf (member c.team.stations (get_or c.order p 0))
  next-ready joined times p more low ahead behind =
      let g = c.live.graph in
      let teams = c.team ∷ [] in
      let are = alone_are_teams joined in
      let met = alone_met joined in
      let sound = is.ranked.sound in
      let state = state_among g teams in
      let t = get_or c.order p 0 in
      let t_low : t < length c.team.stations = is.in_order.exists p low in
      let t_there : t < stations g = omega (arith, t_low, all-stations) in
      let place = λ (u : ℕ). get_or c.live.ranks u 0 in
      let placed : (q : ℕ) → get_or c.live.ranks (c.first + get_or c.order q 0) 0 ≡ place (get_or c.order q 0) =
      λ q. ap place (omega (arith, from-zero)) in
      let at = place t in
      let seat : (u : ℕ) → u < stations g → get_or c.order (index_in c.order u) 0 ≡ u =
      λ u u_there. listed-at_place c.live.ranks c.first (length c.team.stations) c.order is.in_order u (omega (arith, u_there, all-stations)) in
      let dates : (u : ℕ) → u < stations g → length (log state u) ≡ dates_of (member c.team.stations u) =
      λ u u_there. ap length (log-among g c.begun teams sound some are u u_there) ∙ ap dates_of (station-alone u u_there) in
      let reached = stands_for_reached g c.begun teams sound some are met c.live.ranks is.ranked is.reached in
      let round : IsInRound c.live.ranks (record { graph = g; state = state }) times at =
      record {
        ahead = λ u u_there less.
            let u_low : u < length c.team.stations = omega (arith, u_there, all-stations) in
            ⊎_elim
            (λ before. dates u u_there ∙ ahead u u_low before)
            (λ late.
            ⊎_elim
            (λ after.
            let rises = is.in_order.rises p (index_in c.order u) after (is.in_order.listed u u_low) in
            absurd (omega (arith, rises, less, placed p, placed (index_in c.order u), ap place (seat u u_there))))
            (λ here.
            let same : index_in c.order u ≡ p = omega arith in
            absurd (omega (arith, less, ap place (sym (seat u u_there) ∙ ap (λ q. get_or c.order q 0) same))))
            (cases_lt p (index_in c.order u)))
            (cases_lt (index_in c.order u) p);
        behind = λ u u_there high.
            let u_low : u < length c.team.stations = omega (arith, u_there, all-stations) in
            ⊎_elim
            (λ before.
            let rises = is.in_order.rises (index_in c.order u) p before low in
            absurd (omega (arith, rises, high, placed p, placed (index_in c.order u), ap place (seat u u_there))))
            (λ late. dates u u_there ∙ behind u u_low late)
            (cases_lt (index_in c.order u) p);
      } in
      let can = can_fire_next g c.live.ranks state times at t is.ranked (is_reached g state sound is.ranked.limits reached) round more t_there refl in
      let space = spaces g c.begun teams sound some are t t_there (λ a listed _.
      inside-space g c.begun teams sound some are a listed
      (one-worker_number (arc g a).from (sound.starts_exist a listed) ∙ sym (one-worker_number (arc g a).to (sound.ends_exist a listed)))) in
      let ready = can_fire_is_ready g c.begun teams sound some are met t can space in
      subst (λ s. IsReady c.team.shelf s) (station-alone t t_there) (
      subst (λ shelf. IsReady shelf (station_of g teams t)) (shelf-alone t t_there) ready)

  -- a worker that has worked still has its queues
  pub joined-alone : (team : WorkTeam) → TeamWorked c.team team → IsTeam c.live.graph c.begun c.first team → ((a : ℕ) → a < arc_count c.live.graph → IsJoined c.live.graph c.begun (c.team ∷ []) a) → (a : ℕ) → a < arc_count c.live.graph → IsJoined c.live.graph c.begun (team ∷ []) a
  joined-alone team worked members joined =
      let T = stations c.live.graph in
      let none = first-zero 1 T (omega arith) some in
      let Worked : ℕ → Type 0 = λ w. TeamWorked (team_at (c.team ∷ []) w) (team_at (team ∷ []) w) in
      let Manned : ℕ → Type 0 = λ w. IsTeam c.live.graph c.begun (first_of 1 T w) (team_at (team ∷ []) w) in
      let all : TeamsWorked (c.team ∷ []) (team ∷ []) =
      record { count = refl; each = λ w low. let zero_w : 0 ≡ w = omega arith in subst Worked zero_w worked } in
      let are = teams-worked c.live.graph c.begun (c.team ∷ []) (team ∷ []) some (alone_are_teams joined) all is.ranked.sound
      (λ w low. let zero_w : 0 ≡ w = omega arith in subst Manned zero_w (subst (λ n. IsTeam c.live.graph c.begun n team) (from-zero ∙ sym none) members)) in
      are.joined

-- ---- a sweep of the one worker

module _ (c : LineWorker) (is : IsWorker c) (times : ℕ) (alone : IsAlone c times) (more : times < jobs c.live.graph) where
  module _ (now : WorkTeam) (p : ℕ) (is_now : IsWorker (with_team c now)) (so_far : IsSweeping c.order c.team now p) (fired : (i : ℕ) → i < length c.team.stations → index_in c.order i < p → dates_of (member now.stations i) ≡ times + 1) where
    joined-now : (a : ℕ) → a < arc_count c.live.graph → IsJoined c.live.graph c.begun (now ∷ []) a
    joined-now = joined-alone c is alone.one now so_far.worked is_now.members alone.joined

    here-ready : p < length c.order → IsReady now.shelf (member now.stations (get_or c.order p 0))
    here-ready low =
        let many = so_far.worked.count in
        next-ready (with_team c now) is_now alone.one joined-now times p more low
        (λ i low_i before. fired i (omega (arith, low_i, many)) before)
        (λ i low_i late. ap dates_of (so_far.waiting i (omega (arith, low_i, many)) late) ∙ alone.fired i (omega (arith, low_i, many)))

    -- the station at p fires
    pub alone_goes_on : (next : WorkTeam) → p < length c.order → SteppedAt (get_or c.order p 0) now next → (i : ℕ) → i < length c.team.stations → index_in c.order i < p + 1 → dates_of (member next.stations i) ≡ times + 1
    alone_goes_on next low stepped i low_i early =
        let at = get_or c.order p 0 in
        let is_order = is.in_order in
        let count = length c.team.stations in
        let Fired : ℕ → Type 0 = λ k. dates_of (member next.stations k) ≡ times + 1 in
        ⊎_elim
        (λ before.
        let apart : i ≢ at = λ same. omega (arith, before, ap (index_in c.order) same, place-of_listed c.live.ranks c.first count c.order is_order p low) in
        ap (λ (l : List WorkStation). dates_of (member l i)) stepped.only
        ∙ ap dates_of (get_or-set_other now.stations at i (member next.stations at) no_station apart)
        ∙ fired i low_i before)
        (λ late.
        let place_is : index_in c.order i ≡ p = omega arith in
        let here : i ≡ at = sym (listed-at_place c.live.ranks c.first count c.order is_order i low_i) ∙ ap (λ q. get_or c.order q 0) place_is in
        let waits = so_far.waiting at (is_order.exists p low) (omega (arith, place-of_listed c.live.ranks c.first count c.order is_order p low)) in
        subst Fired (sym here) (
        stepped.fires (here-ready low) ∙ ap (λ n. n + 1) (ap dates_of waits ∙ alone.fired at (is_order.exists p low))))
        (cases_lt (index_in c.order i) p)

  -- when all have had their turn, each has fired once more
  pub alone_swept : (now : WorkTeam) → IsWorker (with_team c now) → IsSweeping c.order c.team now (length c.order) → ((i : ℕ) → i < length c.team.stations → index_in c.order i < length c.order → dates_of (member now.stations i) ≡ times + 1) → IsAlone (with_team c now) (times + 1)
  alone_swept now is_now so_far fired = record {
    one = alone.one;
    joined = joined-now now (length c.order) is_now so_far fired;
    fired = λ i low.
        let low' : i < length c.team.stations = omega (arith, low, so_far.worked.count) in
        fired i low' (is.in_order.listed i low');
  }

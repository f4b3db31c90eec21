-- The workers of a line as teams, and a meeting among them.
use Rattle.std.proofs.Common.{◌≡◌, ℕ, ◌+◌, ◌-◌, ◌*◌, ◌<◌, ◌≤◌, List, Option, length, take, get_or, set, add-mul, one-mul, refl, ap, ◌∙◌, sym, subst, arith, ⊎_elim, ◌⊎◌}
use Rattle.std.proofs.lemmas.Bool.{cases_eq}
use Rattle.std.proofs.lemmas.List.{length-set, get_or-set_other, get_or_read, map-set, take_all}
use Rattle.std.proofs.lemmas.List.Sums.{sum_by_more}
use Rattle.line_base.specs.declared.event.Parts.{Parts}
use Rattle.event_graph.specs.Network.{stations, arc, arc_count, ins, outs}
use Rattle.live_check.specs.Order.{LiveGraph, IsRanked}
use Rattle.station_step.specs.Ends.{AreEnds, AreMet}
use Rattle.station_step.specs.Input.{input_at}
use Rattle.station_step.specs.Station.{WorkStation, outlet_at}
use Rattle.line_worker.specs.Share.{worker_of, first_of}
use Rattle.line_worker.specs.Team.{WorkTeam, IsTeam, member}
use Rattle.line_worker.specs.Teams.{team_at, owner_of, station_of, index_in, outlet_on, IsJoined, AreOfRoom, AreTeams, IsMetOn, state_among}
use Rattle.line_worker.specs.Worker.{LineWorker, with_team, teams_of}
use Rattle.line_worker.specs.Work.{dates_of, turns_of, dates_made, turns_made, TeamsWorked}
use Rattle.line_worker.specs.Meeting.{OutletMet, InletMet}
use Rattle.line_workers.specs.Meeting.{MeetsOn, IsMeeting}
use Rattle.line_workers.specs.declared.link.Link.{Link}
use Rattle.line_workers.specs.Link.{seat_of, link_of, seated_at, IsInside, IsSeat, IsRing, HaveMet}
use Rattle.line_worker.specs.Workers.{worker_at, no_worker, live_of, graph_of, begun_of, room_of, AreWorkers, IsSameWorker, AreSameWorkers}
use Rattle.line_worker.proofs.Share.{first-le, next-above, first-rises, first-all, worker_number-below}
use Rattle.line_worker.proofs.Places.{in-stands, out-stands}
use Rattle.line_worker.proofs.TeamStates.{inputs-many, outlets-many}
use Rattle.line_worker.proofs.WorkedTeams.{idle_team, then_team, teams-worked, rooms-worked, local_is_met}
use Rattle.line_worker.proofs.WorkerTeams.{count-teams, team_at-workers}
use Rattle.line_workers.proofs.ArcMeetings.{meets_on}
use Rattle.line_workers.proofs.Totals.{sum_by-map, of_worker, sum-among}
use Rattle.line_core.specs.Consistent.{firing_count}
use Rattle.line_workers.specs.OfWorkers.{turns_among}
use Rattle.std.specs.List.{sum_by, sum, range_with_len}
use Rattle.std.specs.Prelude.{IfSome}

-- ---- all workers

module _ (workers : List LineWorker) (are : AreWorkers workers) where
  abbrev g : Parts
  g = graph_of workers

  first_there : 0 < length workers
  first_there = omega (arith, are.some)

  pub ranked : IsRanked (live_of workers)
  ranked = (are.each 0 first_there).ranked

  any : 1 ≤ stations (graph_of workers)
  any = ranked.limits.some_station

  pub graph-same : (w : ℕ) → w < length workers → (worker_at workers w).live.graph ≡ graph_of workers
  graph-same w low = ap (λ (l : LiveGraph). l.graph) (are.lives w low)

  first-is : (w : ℕ) → w < length workers → (worker_at workers w).first ≡ first_of (length workers) (stations (graph_of workers)) w
  first-is w low =
      let c = worker_at workers w in
      (are.each w low).starts
      ∙ ap (λ n. first_of n (stations c.live.graph) c.worker_number) (are.worker_count w low)
      ∙ ap (λ gr. first_of (length workers) (stations gr) c.worker_number) (graph-same w low)
      ∙ ap (first_of (length workers) (stations g)) (are.numbers w low)

  pub size-is : (w : ℕ) → w < length workers → first_of (length workers) (stations (graph_of workers)) w + length (worker_at workers w).team.stations ≡ first_of (length workers) (stations (graph_of workers)) (w + 1)
  size-is w low =
      let c = worker_at workers w in
      ap (λ n. n + length c.team.stations) (sym (first-is w low))
      ∙ (are.each w low).ends
      ∙ ap (λ n. first_of n (stations c.live.graph) (c.worker_number + 1)) (are.worker_count w low)
      ∙ ap (λ gr. first_of (length workers) (stations gr) (c.worker_number + 1)) (graph-same w low)
      ∙ ap (λ v. first_of (length workers) (stations g) (v + 1)) (are.numbers w low)

  team-is : (w : ℕ) → w < length workers → IsTeam (graph_of workers) (begun_of workers) (first_of (length workers) (stations (graph_of workers)) w) (worker_at workers w).team
  team-is w low =
      let c = worker_at workers w in
      subst (λ n. IsTeam g (begun_of workers) n c.team) (first-is w low) (
      subst (λ b. IsTeam g b c.first c.team) (are.begun w low) (
      subst (λ gr. IsTeam gr c.begun c.first c.team) (graph-same w low) (are.each w low).members))

  pub workers_are_teams : AreTeams (graph_of workers) (begun_of workers) (teams_of workers)
  workers_are_teams =
      let count = count-teams workers in
      record {
        some = omega (arith, are.some, count);
        sizes = λ w low.
            let w_there : w < length workers = omega (arith, low, count) in
            let First : ℕ → ℕ → ℕ = λ n v. first_of n (stations g) v in
            ap (λ n. First n w + length (team_at (teams_of workers) w).stations) count
            ∙ ap (λ (t : WorkTeam). First (length workers) w + length t.stations) (team_at-workers workers w w_there)
            ∙ size-is w w_there
            ∙ ap (λ n. First n (w + 1)) (sym count);
        each = λ w low.
            let w_there : w < length workers = omega (arith, low, count) in
            subst (λ n. IsTeam g (begun_of workers) (first_of n (stations g) w) (team_at (teams_of workers) w)) (sym count) (
            subst (IsTeam g (begun_of workers) (first_of (length workers) (stations g) w)) (sym (team_at-workers workers w w_there)) (team-is w w_there));
        joined = are.joined;
      }

  -- where a station stands
  module _ (t : ℕ) (there : t < stations (graph_of workers)) where
    abbrev seat : ℕ
    seat = worker_of (length workers) (stations (graph_of workers)) t

    pub worker_there : worker_of (length workers) (stations (graph_of workers)) t < length workers
    worker_there = worker_number-below (length workers) (stations g) are.some any t there

    pub seat_there : IsSeat workers (seat_of (graph_of workers) (length workers) t)
    seat_there = record {
      worker_number = worker_there;
      number = omega (arith, size-is seat worker_there, first-le (length workers) (stations g) are.some any t, next-above (length workers) (stations g) are.some any t);
    }

    pub seated : seated_at workers (seat_of (graph_of workers) (length workers) t) ≡ station_of (graph_of workers) (teams_of workers) t
    seated =
        sym (
        ap (λ n. member (team_at (teams_of workers) (worker_of n (stations g) t)).stations (t - first_of n (stations g) (worker_of n (stations g) t))) (count-teams workers)
        ∙ ap (λ (u : WorkTeam). member u.stations (seat_of g (length workers) t).number) (team_at-workers workers seat worker_there))

    pub worker_number-is : owner_of (graph_of workers) (teams_of workers) t ≡ worker_of (length workers) (stations (graph_of workers)) t
    worker_number-is = ap (λ n. worker_of n (stations g) t) (count-teams workers)

  -- a station of a worker, by its number in the graph
  pub of_seat : (w i : ℕ) → w < length workers → i < length (worker_at workers w).team.stations → (first_of (length workers) (stations (graph_of workers)) w + i < stations (graph_of workers)) × (station_of (graph_of workers) (teams_of workers) (first_of (length workers) (stations (graph_of workers)) w + i) ≡ member (worker_at workers w).team.stations i)
  of_seat w i low low_i =
      let T = stations g in
      let n = length workers in
      let t = first_of n T w + i in
      let team_same = team_at-workers workers w low in
      let w_teams : w < length (teams_of workers) = omega (arith, low, count-teams workers) in
      let i_teams : i < length (team_at (teams_of workers) w).stations = omega (arith, low_i, ap (λ (u : WorkTeam). length u.stations) team_same) in
      let within : t < T = omega (arith, size-is w low, low_i, first-rises n T are.some any (w + 1) n (omega (arith, low)), first-all n T are.some any) in (
        within,
        ap (λ m. station_of g (teams_of workers) (first_of m T w + i)) (sym (count-teams workers))
            ∙ of_worker g (begun_of workers) (teams_of workers) any workers_are_teams dates_of w i w_teams i_teams
            ∙ ap (λ (u : WorkTeam). member u.stations i) team_same,
      )

  -- ---- an arc

  module _ (a : ℕ) (listed : a < arc_count (graph_of workers)) where
    from_there : (arc g a).from < stations g
    from_there = ranked.sound.starts_exist a listed

    to_there : (arc g a).to < stations g
    to_there = ranked.sound.ends_exist a listed

    output_there : (link_of (graph_of workers) (length workers) a).output < length (seated_at workers (link_of (graph_of workers) (length workers) a).from).outlets
    output_there =
        omega (arith, (out-stands g a listed).low, outlets-many g (begun_of workers) (teams_of workers) ranked.sound any workers_are_teams (arc g a).from from_there, ap (λ (s : WorkStation). length s.outlets) (seated (arc g a).from from_there))

    input_there : (link_of (graph_of workers) (length workers) a).input < length (seated_at workers (link_of (graph_of workers) (length workers) a).to).inputs
    input_there =
        omega (arith, (in-stands g a listed).low, inputs-many g (begun_of workers) (teams_of workers) ranked.sound any workers_are_teams (arc g a).to to_there, ap (λ (s : WorkStation). length s.inputs) (seated (arc g a).to to_there))

    -- between two workers a ring stands
    pub ring_there : (IsInside (graph_of workers) (length workers) a → ⊥) → IsRing workers (link_of (graph_of workers) (length workers) a)
    ring_there apart =
        let link = link_of g (length workers) a in
        let ring = (are.joined a listed).ring (λ same. apart (sym (worker_number-is (arc g a).from from_there) ∙ same ∙ worker_number-is (arc g a).to to_there)) in
        record {
          apart = apart;
          from = seat_there (arc g a).from from_there;
          output = output_there;
          to = seat_there (arc g a).to to_there;
          input = input_there;
          ends =
              subst (λ (s : WorkStation). AreEnds (outlet_at s.outlets link.output) (input_at (seated_at workers link.to).inputs link.input).inlet) (sym (seated (arc g a).from from_there)) (
              subst (λ (s : WorkStation). AreEnds (outlet_on g (teams_of workers) a) (input_at s.inputs link.input).inlet) (sym (seated (arc g a).to to_there)) ring);
        }

    -- nothing happens at an arc inside one worker
    pub stays_met : IsInside (graph_of workers) (length workers) a → MeetsOn (graph_of workers) (teams_of workers) (teams_of workers) a
    stays_met same = record {
      worked = record { count = refl; each = λ w low. idle_team (team_at (teams_of workers) w) };
      still = record { logs = λ t there. refl; turns = λ t there. refl };
      met = local_is_met g (begun_of workers) (teams_of workers) a (are.joined a listed) (worker_number-is (arc g a).from from_there ∙ same ∙ sym (worker_number-is (arc g a).to to_there));
      others = λ b b_listed differ was. was;
    }

    -- and its ends have met
    module _ (new : List LineWorker) (met : HaveMet (link_of (graph_of workers) (length workers) a) workers new) where
      abbrev from_seat : ℕ
      from_seat = worker_of (length workers) (stations (graph_of workers)) (arc (graph_of workers) a).from

      abbrev to_seat : ℕ
      to_seat = worker_of (length workers) (stations (graph_of workers)) (arc (graph_of workers) a).to

      teams-new : teams_of new ≡ set (set (teams_of workers) from_seat (worker_at new from_seat).team) to_seat (worker_at new to_seat).team
      teams-new =
          let team : LineWorker → WorkTeam = λ (c : LineWorker). c.team in
          ap teams_of met.only
          ∙ map-set team (set workers from_seat (worker_at new from_seat)) to_seat (worker_at new to_seat)
          ∙ ap (λ l. set l to_seat (worker_at new to_seat).team) (map-set team workers from_seat (worker_at new from_seat))

      pub meets_there : (IsInside (graph_of workers) (length workers) a → ⊥) → MeetsOn (graph_of workers) (teams_of workers) (teams_of new) a
      meets_there apart =
          let teams = teams_of workers in
          let T = stations g in
          let from = (arc g a).from in
          let to = (arc g a).to in
          let first = (worker_at new from_seat).team in
          let last = (worker_at new to_seat).team in
          let k = index_in (outs g from) a in
          let l = index_in (ins g to) a in
          let two : owner_of g teams from ≡ owner_of g teams to → ⊥ =
          λ same. apart (sym (worker_number-is from from_there) ∙ same ∙ worker_number-is to to_there) in
          let Puts : ℕ → WorkTeam → Type 0 = λ n old. OutletMet (from - first_of n T (worker_of n T from)) k old first in
          let Takes : ℕ → WorkTeam → Type 0 = λ n old. InletMet (to - first_of n T (worker_of n T to)) l old last in
          let Meet : ℕ → Type 0 =
          λ n. AreMet (outlet_at (member first.stations (from - first_of n T (worker_of n T from))).outlets k) (input_at (member last.stations (to - first_of n T (worker_of n T to))).inputs l).inlet in
          let puts : Puts (length workers) (team_at teams from_seat) =
          subst (Puts (length workers)) (sym (team_at-workers workers from_seat (worker_there from from_there))) met.from in
          let takes : Takes (length workers) (team_at teams to_seat) =
          subst (Takes (length workers)) (sym (team_at-workers workers to_seat (worker_there to to_there))) met.to in
          let all = sym (count-teams workers) in
          let same : set (set teams (owner_of g teams from) first) (owner_of g teams to) last ≡ teams_of new =
          ap (λ v. set (set teams v first) (owner_of g teams to) last) (worker_number-is from from_there)
          ∙ ap (λ w. set (set teams from_seat first) w last) (worker_number-is to to_there)
          ∙ sym teams-new in
          subst (λ (ts : List WorkTeam). MeetsOn g teams ts a) same (
          meets_on g (begun_of workers) teams ranked.sound any workers_are_teams a listed two first last
          (subst (λ n. Puts n (team_at teams (worker_of n T from))) all puts)
          (subst (λ n. Takes n (team_at teams (worker_of n T to))) all takes)
          (subst Meet all met.met))

      pub same_there : AreSameWorkers workers new
      same_there =
          let Same : ℕ → Type 0 = λ v. IsSameWorker (worker_at workers v) (worker_at new v) in
          let first = worker_at new from_seat in
          let last = worker_at new to_seat in
          record {
            count =
                ap (λ (l : List LineWorker). length l) met.only
                ∙ length-set (set workers from_seat first) to_seat last
                ∙ length-set workers from_seat first;
            each = λ v low.
                ⊎_elim
                (λ here. subst Same (sym here) met.to_same)
                (λ apart.
                ⊎_elim
                (λ here. subst Same (sym here) met.from_same)
                (λ other.
                let else : worker_at new v ≡ worker_at workers v =
                ap (λ (l : List LineWorker). worker_at l v) met.only
                ∙ get_or-set_other (set workers from_seat first) to_seat v last no_worker apart
                ∙ get_or-set_other workers from_seat v first no_worker other in
                subst (IsSameWorker (worker_at workers v)) (sym else) (record { worker = are.each v low; frame = refl }))
                (cases_eq v from_seat))
                (cases_eq v to_seat);
          }

  -- workers that are the same but for their teams, which have worked, are the workers of the line
  pub workers-same : (new : List LineWorker) → AreSameWorkers workers new → TeamsWorked (teams_of workers) (teams_of new) → AreWorkers new
  workers-same new same worked =
      let frame = λ (v : ℕ) (low : v < length workers). (same.each v low).frame in
      let back = λ (v : ℕ) (low : v < length new). (let at : v < length workers = omega (arith, low, same.count) in at) in
      let live_same : live_of new ≡ live_of workers = ap (λ (c : LineWorker). c.live) (frame 0 first_there) in
      let begun_same : begun_of new ≡ begun_of workers = ap (λ (c : LineWorker). c.begun) (frame 0 first_there) in
      let room_same : room_of new ≡ room_of workers = ap (λ (c : LineWorker). c.room) (frame 0 first_there) in
      let g_same = ap (λ (l : LiveGraph). l.graph) live_same in
      let teams = teams-worked g (begun_of workers) (teams_of workers) (teams_of new) any workers_are_teams worked ranked.sound
      (λ w low.
      let w_there : w < length workers = omega (arith, low, count-teams workers) in
      let w_new : w < length new = omega (arith, w_there, same.count) in
      let c = worker_at new w in
      let is = (same.each w w_there).worker in
      let gr : c.live.graph ≡ g = ap (λ (d : LineWorker). d.live.graph) (frame w w_there) ∙ graph-same w w_there in
      let bg : c.begun ≡ begun_of workers = ap (λ (d : LineWorker). d.begun) (frame w w_there) ∙ are.begun w w_there in
      let f : c.first ≡ first_of (length (teams_of workers)) (stations g) w =
      ap (λ (d : LineWorker). d.first) (frame w w_there) ∙ first-is w w_there ∙ ap (λ n. first_of n (stations g) w) (sym (count-teams workers)) in
      subst (IsTeam g (begun_of workers) (first_of (length (teams_of workers)) (stations g) w)) (sym (team_at-workers new w w_new)) (
      subst (λ n. IsTeam g (begun_of workers) n c.team) f (
      subst (λ b. IsTeam g b c.first c.team) bg (
      subst (λ h. IsTeam h c.begun c.first c.team) gr is.members)))) in
      record {
        some = omega (arith, are.some, same.count);
        each = λ v low. (same.each v (back v low)).worker;
        worker_count = λ v low. ap (λ (c : LineWorker). c.worker_count) (frame v (back v low)) ∙ are.worker_count v (back v low) ∙ sym same.count;
        numbers = λ v low. ap (λ (c : LineWorker). c.worker_number) (frame v (back v low)) ∙ are.numbers v (back v low);
        lives = λ v low. ap (λ (c : LineWorker). c.live) (frame v (back v low)) ∙ are.lives v (back v low) ∙ sym live_same;
        begun = λ v low. ap (λ (c : LineWorker). c.begun) (frame v (back v low)) ∙ are.begun v (back v low) ∙ sym begun_same;
        joined =
            subst (λ gr. (a : ℕ) → a < arc_count gr → IsJoined gr (begun_of new) (teams_of new) a) (sym g_same) (
            subst (λ b. (a : ℕ) → a < arc_count g → IsJoined g b (teams_of new) a) (sym begun_same) teams.joined);
        kinds = λ v low. ap (λ (c : LineWorker). c.room) (frame v (back v low)) ∙ are.kinds v (back v low) ∙ sym room_same;
        some_room = subst (λ (r : Option ℕ). IfSome r (λ n. 1 ≤ n)) (sym room_same) are.some_room;
        rooms =
            subst (λ gr. AreOfRoom (room_of new) gr (teams_of new)) (sym g_same) (
            subst (λ r. AreOfRoom r g (teams_of new)) (sym room_same) (
            rooms-worked g (begun_of workers) (teams_of workers) (teams_of new) any workers_are_teams worked ranked.sound (room_of workers) are.rooms));
      }

-- ---- as the code has them

module _ (workers : List LineWorker) (are : AreWorkers workers) (live : LiveGraph) (made_for : live ≡ live_of workers) (a : ℕ) (listed : a < arc_count live.graph) where
  there_a : a < arc_count (graph_of workers)
  there_a = subst (λ (v : LiveGraph). a < arc_count v.graph) made_for listed

  abbrev Meets : List LineWorker → LiveGraph → Type 0
  Meets new v = MeetsOn v.graph (teams_of workers) (teams_of new) a

  pub met_inside : IsInside live.graph (length workers) a → MeetsOn live.graph (teams_of workers) (teams_of workers) a
  met_inside inside =
      subst (Meets workers) (sym made_for) (
      stays_met workers are a there_a (subst (λ (v : LiveGraph). IsInside v.graph (length workers) a) made_for inside))

  module _ (link : Link) (is : link ≡ link_of live.graph (length workers) a) where
    link-is : link ≡ link_of (graph_of workers) (length workers) a
    link-is = is ∙ ap (λ (v : LiveGraph). link_of v.graph (length workers) a) made_for

    pub may_meet : (IsInside live.graph (length workers) a → ⊥) → IsRing workers link
    may_meet apart =
        subst (IsRing workers) (sym link-is) (
        ring_there workers are a there_a (λ inside. apart (subst (λ (v : LiveGraph). IsInside v.graph (length workers) a) (sym made_for) inside)))

    module _ (new : List LineWorker) (met : HaveMet link workers new) where
      met_here : HaveMet (link_of (graph_of workers) (length workers) a) workers new
      met_here = subst (λ (l : Link). HaveMet l workers new) link-is met

      pub met_between : (IsInside live.graph (length workers) a → ⊥) → MeetsOn live.graph (teams_of workers) (teams_of new) a
      met_between apart =
          subst (Meets new) (sym made_for) (
          meets_there workers are a there_a new met_here (λ inside. apart (subst (λ (v : LiveGraph). IsInside v.graph (length workers) a) (sym made_for) inside)))

      pub same_after : AreSameWorkers workers new
      same_after = same_there workers are a there_a new met_here

  -- one worker has both stations of each arc, so its queue is one of the shelf
  pub alone_is_met : length workers ≡ 1 → IsMetOn live.graph (teams_of workers) a
  alone_is_met one =
      let starts = worker_there workers are (arc (graph_of workers) a).from (from_there workers are a there_a) in
      let ends = worker_there workers are (arc (graph_of workers) a).to (to_there workers are a there_a) in
      let inside : IsInside (graph_of workers) (length workers) a = omega (arith, one, starts, ends) in
      subst (λ (v : LiveGraph). IsMetOn v.graph (teams_of workers) a) (sym made_for) (stays_met workers are a there_a inside).met

-- workers to which nothing happened
pub workers-stay : (workers : List LineWorker) → AreWorkers workers → AreSameWorkers workers workers
workers-stay workers are = record { count = refl; each = λ v low. record { worker = are.each v low; frame = refl } }

pub then_same : (workers mid new : List LineWorker) → AreSameWorkers workers mid → AreSameWorkers mid new → AreSameWorkers workers new
then_same workers mid new first next = record {
  count = next.count ∙ first.count;
  each = λ v low.
      let later = next.each v (omega (arith, low, first.count)) in
      record {
        worker = later.worker;
        frame = later.frame ∙ ap (λ (c : LineWorker). with_team c (worker_at new v).team) (first.each v low).frame;
      };
}

-- ---- all arcs

pub meeting_begins : (live : LiveGraph) (workers : List LineWorker) (None : ℕ → Type 0) → ((b : ℕ) → None b → ⊥) → AreWorkers workers → live ≡ live_of workers → IsMeeting live workers workers None
meeting_begins live workers None none are made_for = record {
  whole = are;
  live_is = made_for;
  same = workers-stay workers are;
  worked = record { count = refl; each = λ w low. idle_team (team_at (teams_of workers) w) };
  still = record { logs = λ t there. refl; turns = λ t there. refl };
  met = λ b low some. absurd (none b some);
}

pub teams-then : (old now next : List WorkTeam) → TeamsWorked old now → TeamsWorked now next → TeamsWorked old next
teams-then old now next first later = record {
  count = later.count ∙ first.count;
  each = λ w low. then_team (team_at old w) (team_at now w) (team_at next w) (first.each w low) (later.each w (omega (arith, low, first.count)));
}

-- one arc more
pub meeting_goes_on : (live : LiveGraph) (old now next : List LineWorker) (Some More : ℕ → Type 0) (a : ℕ) → IsMeeting live old now Some → ((b : ℕ) → More b → (b ≡ a) ⊎ Some b) → AreSameWorkers now next → MeetsOn live.graph (teams_of now) (teams_of next) a → IsMeeting live old next More
meeting_goes_on live old now next Some More a inv narrow same meets =
    let first : 0 < length now = omega (arith, inv.whole.some) in
    record {
      whole = workers-same now inv.whole next same meets.worked;
      live_is = inv.live_is ∙ sym (ap (λ (c : LineWorker). c.live) (same.each 0 first).frame);
      same = then_same old now next inv.same same;
      worked = teams-then (teams_of old) (teams_of now) (teams_of next) inv.worked meets.worked;
      still = record {
        logs = λ t there. meets.still.logs t there ∙ inv.still.logs t there;
        turns = λ t there. meets.still.turns t there ∙ inv.still.turns t there;
      };
      met = λ b low more.
          let here : b ≡ a → IsMetOn live.graph (teams_of next) b =
          λ same_arc. subst (IsMetOn live.graph (teams_of next)) (sym same_arc) meets.met in
          ⊎_elim
          here
          (λ before. ⊎_elim here (λ apart. meets.others b low apart (inv.met b low before)) (cases_eq b a))
          (narrow b more);
    }

-- ---- totals

-- what the teams of the first k workers have of something, of which none has more than that
pub record CountedUpTo (count : WorkTeam → ℕ) (most k : ℕ) (workers : List LineWorker) (so_far : ℕ) : Type 0 where
  pub made : so_far ≡ sum_by (λ (worker : LineWorker). count worker.team) (take k workers)
  pub few : so_far ≤ k * most

pub counted_more : (count : WorkTeam → ℕ) (most k : ℕ) (workers : List LineWorker) (worker : LineWorker) (so_far more : ℕ) → k < length workers → worker ≡ get_or workers k worker → more ≡ count worker.team → more ≤ most → CountedUpTo count most k workers so_far → CountedUpTo count most (k + 1) workers (so_far + more)
counted_more count most k workers worker so_far more low read more_is fits before =
    let at = get_or_read workers k worker low read no_worker in
    record {
      made = omega (arith, before.made, more_is, ap (λ (w : LineWorker). count w.team) at, sum_by_more (λ (w : LineWorker). count w.team) workers k no_worker low);
      few = omega (arith, before.few, fits, add-mul k 1 most, one-mul most);
    }

pub counted_all : (count : WorkTeam → ℕ) (most k : ℕ) (workers : List LineWorker) (so_far : ℕ) → length workers ≤ k → CountedUpTo count most k workers so_far → so_far ≡ sum_by (λ (worker : LineWorker). count worker.team) workers
counted_all count most k workers so_far all counted =
    counted.made ∙ ap (λ (l : List LineWorker). sum_by (λ (worker : LineWorker). count worker.team) l) (take_all k workers all)

-- what the stations of all workers have of something together is the sum over the stations of the graph
total : (f : WorkStation → ℕ) (workers : List LineWorker) → AreWorkers workers → sum_by (λ (worker : LineWorker). sum_by f worker.team.stations) workers ≡ sum_by (λ t. f (station_of (graph_of workers) (teams_of workers) t)) (range_with_len 0 (stations (graph_of workers)))
total f workers are =
    let g = graph_of workers in
    sym (sum_by-map (λ (team : WorkTeam). sum_by f team.stations) (λ (c : LineWorker). c.team) workers)
    ∙ sym (sum-among g (begun_of workers) (teams_of workers) (ranked workers are).limits.some_station (workers_are_teams workers are) f)
    ∙ sum_by-map f (station_of g (teams_of workers)) (range_with_len 0 (stations g))

pub dates-total : (workers : List LineWorker) → AreWorkers workers → sum_by (λ (worker : LineWorker). dates_made worker.team) workers ≡ firing_count (state_among (graph_of workers) (teams_of workers))
unfolding state_among
dates-total workers are =
    let g = graph_of workers in
    total dates_of workers are ∙ sym (sum_by-map length (λ t. (station_of g (teams_of workers) t).log.dates) (range_with_len 0 (stations g)))

pub turns-total : (workers : List LineWorker) → AreWorkers workers → sum_by (λ (worker : LineWorker). turns_made worker.team) workers ≡ sum (turns_among (graph_of workers) (teams_of workers))
turns-total workers are =
    let g = graph_of workers in
    total turns_of workers are ∙ sym (sum_by-map (λ (n : ℕ). n) (λ t. turns_of (station_of g (teams_of workers) t)) (range_with_len 0 (stations g)))

-- A meeting at one arc between two workers.
use Rattle.std.proofs.Common.{◌≡◌, ◌≢◌, ℕ, ◌+◌, ◌-◌, ◌<◌, ◌≤◌, List, [], None, take, length, get_or, set, refl, ap, ◌∙◌, sym, subst, arith, ⊎_elim, length-append}
use Rattle.std.proofs.lemmas.Bool.{cases_eq}
use Rattle.std.proofs.lemmas.List.{length-set, get_or-set_same, get_or-set_other, take_all}
use Rattle.line_base.specs.declared.event.Parts.{Parts}
use Rattle.line_base.specs.Roomy.{RoomyLog}
use Rattle.card_queue.specs.Plain.{PlainQueue}
use Rattle.event_graph.specs.Network.{stations, arc, arc_count, ins, outs, IsGraph}
use Rattle.event_graph.specs.State.{State}
use Rattle.station_step.specs.declared.ends.Inlet.{Inlet}
use Rattle.station_step.specs.declared.ends.Outlet.{Outlet}
use Rattle.station_step.specs.declared.ends.Inlet.TheVariants as inlet
use Rattle.station_step.specs.declared.ends.Outlet.TheVariants as outlet
use Rattle.station_step.specs.declared.input.Input.{Input}
use Rattle.station_step.specs.Ends.{AreMet}
use Rattle.station_step.specs.Input.{input_at}
use Rattle.station_step.specs.Station.{WorkStation, bare_station, outlet_at}
use Rattle.line_worker.specs.Share.{worker_of, first_of}
use Rattle.line_worker.specs.Team.{WorkTeam, member, no_station}
use Rattle.line_worker.specs.Teams.{team_at, owner_of, station_of, shelf_of, index_in, input_on, outlet_on, AreTeams, IsQueueMet}
use Rattle.line_worker.specs.Work.{dates_of, turns_of, HasWorked, IsSameShelf, TeamWorked, TeamsWorked}
use Rattle.line_worker.specs.Meeting.{OutletMet, InletMet}
use Rattle.line_workers.specs.Meeting.{AreStill, MeetsOn}
use Rattle.line_worker.proofs.Share.{first-le, next-above, worker_number-below}
use Rattle.line_worker.proofs.Places.{StandsIn, in-stands, out-stands}
use Rattle.line_worker.proofs.WorkedTeams.{idle, idle_shelf, idle_team, then_team}

abbrev no_team : WorkTeam
no_team = record { stations = []; shelf = [] }

-- two ends that met
met-queue : (from to : List PlainQueue) (o : Outlet) (i : Inlet) → AreMet o i → IsQueueMet from to o i
met-queue from to (outlet.Ring put) (inlet.Ring take) met = record {
  in_order = (take.known, met);
  known = omega (arith, ap length met, length-append take.taken take.known);
  room = tt;
}
met-queue from to (outlet.Ring put) (inlet.Room take) met = absurd met
met-queue from to (outlet.Ring put) (inlet.Local q) met = absurd met
met-queue from to (outlet.Room put) (inlet.Ring take) met = absurd met
met-queue from to (outlet.Room put) (inlet.Room take) met = record { in_order = met.in_order; known = met.known; room = met }
met-queue from to (outlet.Room put) (inlet.Local q) met = absurd met
met-queue from to (outlet.Local q) (inlet.Ring take) met = absurd met
met-queue from to (outlet.Local q) (inlet.Room take) met = absurd met
met-queue from to (outlet.Local q) (inlet.Local r) met = absurd met

-- ---- teams of which one has changed, by what one of its stations has seen

-- station t, which has number j in the team of worker w, has changed
record HasSeen (g : Parts) (old new : List WorkTeam) (t w j : ℕ) (team : WorkTeam) (after : WorkStation) : Type 0 where
  some : 1 ≤ stations g
  teams : 1 ≤ length old
  sizes : (v : ℕ) → v < length old →
      first_of (length old) (stations g) v + length (team_at old v).stations ≡ first_of (length old) (stations g) (v + 1)
  there : t < stations g
  worker_number : owner_of g old t ≡ w
  number : t - first_of (length old) (stations g) w ≡ j
  new_is : new ≡ set old w team
  only : team ≡ record { stations = set (team_at old w).stations j after; shelf = (team_at old w).shelf }
  bare : bare_station after ≡ bare_station (member (team_at old w).stations j)
  log : after.log ≡ (member (team_at old w).stations j).log
  turns : after.turns ≡ (member (team_at old w).stations j).turns

module _ (g : Parts) (old new : List WorkTeam) (t w j : ℕ) (team : WorkTeam) (after : WorkStation) (seen : HasSeen g old new t w j team after) where
  w_there : w < length old
  w_there = omega (arith, worker_number-below (length old) (stations g) seen.teams seen.some t seen.there, seen.worker_number)

  j_there : j < length (team_at old w).stations
  j_there =
      let First : ℕ → ℕ = first_of (length old) (stations g) in
      omega (arith, seen.number, seen.sizes w w_there, ap First seen.worker_number, ap (λ v. First (v + 1)) seen.worker_number, first-le (length old) (stations g) seen.teams seen.some t, next-above (length old) (stations g) seen.teams seen.some t)

  count : length new ≡ length old
  count = ap (λ (l : List WorkTeam). length l) seen.new_is ∙ length-set old w team

  team-here : team_at new w ≡ team
  team-here = ap (λ (l : List WorkTeam). team_at l w) seen.new_is ∙ get_or-set_same old w team no_team w_there

  team-other : (v : ℕ) → v ≢ w → team_at new v ≡ team_at old v
  team-other v apart = ap (λ (l : List WorkTeam). team_at l v) seen.new_is ∙ get_or-set_other old w v team no_team apart

  member-here : member team.stations j ≡ after
  member-here = ap (λ (u : WorkTeam). member u.stations j) seen.only ∙ get_or-set_same (team_at old w).stations j after no_station j_there

  member-other : (i : ℕ) → i ≢ j → member team.stations i ≡ member (team_at old w).stations i
  member-other i apart =
      ap (λ (u : WorkTeam). member u.stations i) seen.only
      ∙ get_or-set_other (team_at old w).stations j i after no_station apart

  worked-here : HasWorked (member (team_at old w).stations j) after
  worked-here =
      let before = member (team_at old w).stations j in
      record {
        same = seen.bare;
        kept = ap (λ (log : RoomyLog). take (dates_of before) log.dates) seen.log ∙ take_all (dates_of before) before.log.dates (omega arith);
        turned = omega (arith, seen.turns);
        steps = omega (arith, seen.turns, ap (λ (log : RoomyLog). length log.dates) seen.log);
      }

  team-worked : TeamWorked (team_at old w) team
  team-worked =
      let Worked : ℕ → Type 0 = λ i. HasWorked (member (team_at old w).stations i) (member team.stations i) in
      record {
        count = ap (λ (u : WorkTeam). length u.stations) seen.only ∙ length-set (team_at old w).stations j after;
        shelf = subst (IsSameShelf (team_at old w).shelf) (sym (ap (λ (u : WorkTeam). u.shelf) seen.only)) (idle_shelf (team_at old w).shelf);
        each = λ i low.
            ⊎_elim
            (λ same. subst Worked (sym same) (subst (HasWorked (member (team_at old w).stations j)) (sym member-here) worked-here))
            (λ apart. subst (HasWorked (member (team_at old w).stations i)) (sym (member-other i apart)) (idle (member (team_at old w).stations i)))
            (cases_eq i j);
      }

  teams-seen : TeamsWorked old new
  teams-seen =
      let Worked : ℕ → Type 0 = λ v. TeamWorked (team_at old v) (team_at new v) in
      record {
        count = count;
        each = λ v low.
            ⊎_elim
            (λ same. subst Worked (sym same) (subst (TeamWorked (team_at old w)) (sym team-here) team-worked))
            (λ apart. subst (TeamWorked (team_at old v)) (sym (team-other v apart)) (idle_team (team_at old v)))
            (cases_eq v w);
      }

  shelf-seen : (u : ℕ) → shelf_of g new u ≡ shelf_of g old u
  shelf-seen u =
      ap (λ n. (team_at new (worker_of n (stations g) u)).shelf) count
      ∙ ⊎_elim
      (λ same.
      ap (λ v. (team_at new v).shelf) same
      ∙ ap (λ (v : WorkTeam). v.shelf) (team-here ∙ seen.only)
      ∙ ap (λ v. (team_at old v).shelf) (sym same))
      (λ apart. ap (λ (v : WorkTeam). v.shelf) (team-other (owner_of g old u) apart))
      (cases_eq (owner_of g old u) w)

  -- station u of the new teams, by its number in its team
  station-at : (u : ℕ) → station_of g new u ≡ member (team_at new (owner_of g old u)).stations (u - first_of (length old) (stations g) (owner_of g old u))
  station-at u = ap (λ n. member (team_at new (worker_of n (stations g) u)).stations (u - first_of n (stations g) (worker_of n (stations g) u))) count

  station-seen : station_of g new t ≡ after
  station-seen =
      station-at t
      ∙ ap (λ v. member (team_at new v).stations (t - first_of (length old) (stations g) v)) seen.worker_number
      ∙ ap (λ i. member (team_at new w).stations i) seen.number
      ∙ ap (λ (u : WorkTeam). member u.stations j) team-here
      ∙ member-here

  station-was : station_of g old t ≡ member (team_at old w).stations j
  station-was =
      ap (λ v. member (team_at old v).stations (t - first_of (length old) (stations g) v)) seen.worker_number
      ∙ ap (λ i. member (team_at old w).stations i) seen.number

  station-else : (u : ℕ) → u < stations g → u ≢ t → station_of g new u ≡ station_of g old u
  station-else u there apart =
      let First : ℕ → ℕ = first_of (length old) (stations g) in
      let v = owner_of g old u in
      let i = u - First v in
      station-at u
      ∙ ⊎_elim
      (λ same.
      let differs : i ≢ j =
      λ e.
      apart (omega (arith, e, seen.number, ap First same, ap First seen.worker_number, first-le (length old) (stations g) seen.teams seen.some u, first-le (length old) (stations g) seen.teams seen.some t)) in
      ap (λ x. member (team_at new x).stations i) same
      ∙ ap (λ (x : WorkTeam). member x.stations i) team-here
      ∙ member-other i differs
      ∙ ap (λ x. member (team_at old x).stations i) (sym same))
      (λ other. ap (λ (x : WorkTeam). member x.stations i) (team-other v other))
      (cases_eq v w)

  -- what has not changed of station t has changed of none
  kept-of : {X : Type 0} (look : WorkStation → X) → look after ≡ look (member (team_at old w).stations j) → (u : ℕ) → u < stations g → look (station_of g new u) ≡ look (station_of g old u)
  kept-of {X} look same u there =
      let Kept : ℕ → Type 0 = λ v. look (station_of g new v) ≡ look (station_of g old v) in
      ⊎_elim
      (λ is_t. subst Kept (sym is_t) (ap look station-seen ∙ same ∙ ap look (sym station-was)))
      (λ apart. ap look (station-else u there apart))
      (cases_eq u t)

  -- where station t has changed one end alone, that of arc a, the ends of another arc stay
  end-else : {X : Type 0} (ends : WorkStation → List X) (d x : X) (lists : Parts → ℕ → List ℕ) (side : ℕ → ℕ) (a b : ℕ) → side a ≡ t → ends after ≡ set (ends (member (team_at old w).stations j)) (index_in (lists g (side a)) a) x → StandsIn (lists g (side a)) a → StandsIn (lists g (side b)) b → side b < stations g → b ≢ a → get_or (ends (station_of g new (side b))) (index_in (lists g (side b)) b) d ≡ get_or (ends (station_of g old (side b))) (index_in (lists g (side b)) b) d
  end-else {X} ends d x lists side a b at_t changed stands_a stands_b there differ =
      let p = index_in (lists g (side b)) b in
      let k = index_in (lists g (side a)) a in
      ⊎_elim
      (λ here.
      let differs : p ≢ k =
      λ e.
      differ (
      sym stands_b.at
      ∙ ap (λ u. get_or (lists g u) p 0) (here ∙ sym at_t)
      ∙ ap (λ q. get_or (lists g (side a)) q 0) e
      ∙ stands_a.at) in
      ap (λ u. get_or (ends (station_of g new u)) p d) here
      ∙ ap (λ (s : WorkStation). get_or (ends s) p d) station-seen
      ∙ ap (λ l. get_or l p d) changed
      ∙ get_or-set_other (ends (member (team_at old w).stations j)) k p x d differs
      ∙ ap (λ (s : WorkStation). get_or (ends s) p d) (sym station-was)
      ∙ ap (λ u. get_or (ends (station_of g old u)) p d) (sym here))
      (λ apart. ap (λ (s : WorkStation). get_or (ends s) p d) (station-else (side b) there apart))
      (cases_eq (side b) t)

  still-seen : AreStill g old new
  still-seen = record {
    logs = kept-of (λ s. s.log) seen.log;
    turns = kept-of turns_of seen.turns;
  }

-- ---- the two stations of an arc, one after the other

module _ (g : Parts) (begun : State) (old : List WorkTeam) (sound : IsGraph g) (some : 1 ≤ stations g) (are : AreTeams g begun old) (a : ℕ) (listed : a < arc_count g) (apart : owner_of g old (arc g a).from ≢ owner_of g old (arc g a).to) (first last : WorkTeam) where
  abbrev f : ℕ
  f = (arc g a).from

  abbrev t : ℕ
  t = (arc g a).to

  abbrev v : ℕ
  v = owner_of g old (arc g a).from

  abbrev w : ℕ
  w = owner_of g old (arc g a).to

  abbrev i : ℕ
  i = (arc g a).from - first_of (length old) (stations g) (owner_of g old (arc g a).from)

  abbrev j : ℕ
  j = (arc g a).to - first_of (length old) (stations g) (owner_of g old (arc g a).to)

  abbrev k : ℕ
  k = index_in (outs g (arc g a).from) a

  abbrev l : ℕ
  l = index_in (ins g (arc g a).to) a

  abbrev mid : List WorkTeam
  mid = set old (owner_of g old (arc g a).from) first

  abbrev new : List WorkTeam
  new = set (set old (owner_of g old (arc g a).from) first) (owner_of g old (arc g a).to) last

  abbrev s : WorkStation
  s = member first.stations ((arc g a).from - first_of (length old) (stations g) (owner_of g old (arc g a).from))

  abbrev r : WorkStation
  r = member last.stations ((arc g a).to - first_of (length old) (stations g) (owner_of g old (arc g a).to))

  f_there : f < stations g
  f_there = sound.starts_exist a listed

  t_there : t < stations g
  t_there = sound.ends_exist a listed

  two : f ≢ t
  two same = apart (ap (owner_of g old) same)

  module _ (out_met : OutletMet ((arc g a).from - first_of (length old) (stations g) (owner_of g old (arc g a).from)) (index_in (outs g (arc g a).from) a) (team_at old (owner_of g old (arc g a).from)) first) (in_met : InletMet ((arc g a).to - first_of (length old) (stations g) (owner_of g old (arc g a).to)) (index_in (ins g (arc g a).to) a) (team_at old (owner_of g old (arc g a).to)) last) where
    -- the station that puts
    puts : HasSeen g old mid f v i first s
    puts = record {
      some = some;
      teams = are.some;
      sizes = are.sizes;
      there = f_there;
      worker_number = refl;
      number = refl;
      new_is = refl;
      only = out_met.only;
      bare = out_met.bare;
      log = ap (λ (x : WorkStation). x.log) out_met.outlet;
      turns = ap (λ (x : WorkStation). x.turns) out_met.outlet;
    }

    mid-count : length mid ≡ length old
    mid-count = count g old mid f v i first s puts

    team-to : team_at mid w ≡ team_at old w
    team-to = team-other g old mid f v i first s puts w (λ same. apart (sym same))

    first-worked : TeamsWorked old mid
    first-worked = teams-seen g old mid f v i first s puts

    mid-sizes : (x : ℕ) → x < length mid → first_of (length mid) (stations g) x + length (team_at mid x).stations ≡ first_of (length mid) (stations g) (x + 1)
    mid-sizes x low =
        let x_low : x < length old = omega (arith, low, mid-count) in
        ap (λ n. first_of n (stations g) x + length (team_at mid x).stations) mid-count
        ∙ ap (λ n. first_of (length old) (stations g) x + n) (first-worked.each x x_low).count
        ∙ are.sizes x x_low
        ∙ ap (λ n. first_of n (stations g) (x + 1)) (sym mid-count)

    -- and then the one that takes
    takes : HasSeen g mid new t w j last r
    takes = record {
      some = some;
      teams = omega (arith, are.some, mid-count);
      sizes = mid-sizes;
      there = t_there;
      worker_number = ap (λ n. worker_of n (stations g) t) mid-count;
      number = ap (λ n. t - first_of n (stations g) w) mid-count;
      new_is = refl;
      only =
          in_met.only
          ∙ ap (λ (u : WorkTeam). (let team : WorkTeam = record { stations = set u.stations j r; shelf = u.shelf } in team)) (sym team-to);
      bare = in_met.bare ∙ ap (λ (u : WorkTeam). bare_station (member u.stations j)) (sym team-to);
      log = ap (λ (x : WorkStation). x.log) in_met.inlet ∙ ap (λ (u : WorkTeam). (member u.stations j).log) (sym team-to);
      turns = ap (λ (x : WorkStation). x.turns) in_met.inlet ∙ ap (λ (u : WorkTeam). (member u.stations j).turns) (sym team-to);
    }

    last-worked : TeamsWorked mid new
    last-worked = teams-seen g mid new t w j last r takes

    worked : TeamsWorked old new
    worked = record {
      count = last-worked.count ∙ first-worked.count;
      each = λ x low. then_team (team_at old x) (team_at mid x) (team_at new x) (first-worked.each x low) (last-worked.each x (omega (arith, low, mid-count)));
    }

    shelf-new : (u : ℕ) → shelf_of g new u ≡ shelf_of g old u
    shelf-new u = shelf-seen g mid new t w j last r takes u ∙ shelf-seen g old mid f v i first s puts u

    still : AreStill g old new
    still =
        let early = still-seen g old mid f v i first s puts in
        let late = still-seen g mid new t w j last r takes in
        record {
          logs = λ u there. late.logs u there ∙ early.logs u there;
          turns = λ u there. late.turns u there ∙ early.turns u there;
        }

    outlet-here : outlet_on g new a ≡ outlet_at s.outlets k
    outlet-here =
        ap (λ (x : WorkStation). outlet_at x.outlets k)
        (station-else g mid new t w j last r takes f f_there two ∙ station-seen g old mid f v i first s puts)

    input-here : input_on g new a ≡ input_at r.inputs l
    input-here = ap (λ (x : WorkStation). input_at x.inputs l) (station-seen g mid new t w j last r takes)

    -- the station that takes keeps its outlets, and the one that puts its inputs
    outlets-last : (u : ℕ) → u < stations g → (station_of g new u).outlets ≡ (station_of g mid u).outlets
    outlets-last u there =
        kept-of g mid new t w j last r takes (λ x. x.outlets)
        (ap (λ (x : WorkStation). x.outlets) in_met.inlet ∙ ap (λ (u : WorkTeam). (member u.stations j).outlets) (sym team-to))
        u there

    inputs-first : (u : ℕ) → u < stations g → (station_of g mid u).inputs ≡ (station_of g old u).inputs
    inputs-first u there =
        kept-of g old mid f v i first s puts (λ x. x.inputs) (ap (λ (x : WorkStation). x.inputs) out_met.outlet) u there

    outlet-else : (b : ℕ) → b < arc_count g → b ≢ a → outlet_on g new b ≡ outlet_on g old b
    outlet-else b b_listed differ =
        let there = sound.starts_exist b b_listed in
        ap (λ outlets. outlet_at outlets (index_in (outs g (arc g b).from) b)) (outlets-last (arc g b).from there)
        ∙ end-else g old mid f v i first s puts (λ x. x.outlets) (outlet.Local 0) (outlet_at s.outlets k) outs (λ n. (arc g n).from) a b refl
        (ap (λ (x : WorkStation). x.outlets) out_met.outlet)
        (out-stands g a listed)
        (out-stands g b b_listed)
        there
        differ

    input-else : (b : ℕ) → b < arc_count g → b ≢ a → input_on g new b ≡ input_on g old b
    input-else b b_listed differ =
        let there = sound.ends_exist b b_listed in
        let none : Input = record { inlet = inlet.Local 0; hand = None } in
        let met : Input = record (input_at (member (team_at old w).stations j).inputs l) { inlet = (input_at r.inputs l).inlet } in
        end-else g mid new t w j last r takes (λ x. x.inputs) none met ins (λ n. (arc g n).to) a b refl
        (ap (λ (x : WorkStation). x.inputs) in_met.inlet ∙ ap (λ (u : WorkTeam). set (member u.stations j).inputs l met) (sym team-to))
        (in-stands g a listed)
        (in-stands g b b_listed)
        there
        differ
        ∙ ap (λ inputs. input_at inputs (index_in (ins g (arc g b).to) b)) (inputs-first (arc g b).to there)

    pub meets_on : AreMet (outlet_at (member first.stations ((arc g a).from - first_of (length old) (stations g) (owner_of g old (arc g a).from))).outlets (index_in (outs g (arc g a).from) a)) (input_at (member last.stations ((arc g a).to - first_of (length old) (stations g) (owner_of g old (arc g a).to))).inputs (index_in (ins g (arc g a).to) a)).inlet → MeetsOn g old (set (set old (owner_of g old (arc g a).from) first) (owner_of g old (arc g a).to) last) a
    meets_on met = record {
      worked = worked;
      still = still;
      met =
          subst (λ (x : Outlet). IsQueueMet (shelf_of g new f) (shelf_of g new t) x (input_on g new a).inlet) (sym outlet-here) (
          subst (λ (x : Input). IsQueueMet (shelf_of g new f) (shelf_of g new t) (outlet_at s.outlets k) x.inlet) (sym input-here) (
          met-queue (shelf_of g new f) (shelf_of g new t) (outlet_at s.outlets k) (input_at r.inputs l).inlet met));
      others = λ b b_listed differ was.
          let from = (arc g b).from in
          let to = (arc g b).to in
          subst (λ (x : Outlet). IsQueueMet (shelf_of g new from) (shelf_of g new to) x (input_on g new b).inlet) (sym (outlet-else b b_listed differ)) (
          subst (λ (x : Input). IsQueueMet (shelf_of g new from) (shelf_of g new to) (outlet_on g old b) x.inlet) (sym (input-else b b_listed differ)) (
          subst (λ shelf. IsQueueMet shelf (shelf_of g new to) (outlet_on g old b) (input_on g old b).inlet) (sym (shelf-new from)) (
          subst (λ shelf. IsQueueMet (shelf_of g old from) shelf (outlet_on g old b) (input_on g old b).inlet) (sym (shelf-new to)) was)));
    }

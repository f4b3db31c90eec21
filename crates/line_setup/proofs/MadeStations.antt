-- Stations that take their ends one after the other, and what is left of the ends.
use Rattle.std.proofs.Common.{◌≡◌, ◌≢◌, ℕ, ◌+◌, ◌-◌, ◌^◌, ◌<◌, ◌≤◌, List, [], ◌∷◌, ◌++◌, Result, Ok, Err, IfOk, Vec, Global, map, length, slice_index, get_or, set, take, refl, sym, ap, ◌∙◌, subst, arith, ⊎_elim}
use Rattle.std.specs.List.{All}
use Rattle.std.specs.declared.alloc.AllocError.{AllocError}
use Rattle.std.proofs.lemmas.Bool.{cases_lt}
use Rattle.std.proofs.lemmas.Simd.{map-map}
use Rattle.std.proofs.lemmas.List.{get_or_default, get_or_append_left, get_or_push, length_push, length-map, length-set, get_or-map, get_or-set_other, map_more}
use Rattle.line_base.specs.declared.event.Parts.{Parts}
use Rattle.line_base.specs.Roomy.{RoomyLog}
use Rattle.card_queue.specs.Plain.{PlainQueue}
use Rattle.event_graph.specs.Network.{stations, jobs, arc, arc_count, delay, ins, outs}
use Rattle.event_graph.specs.State.{State, log}
use Rattle.station_step.specs.declared.ends.Inlet.{Inlet}
use Rattle.station_step.specs.declared.ends.Outlet.{Outlet}
use Rattle.station_step.specs.declared.ends.Inlet.TheVariants as inlet
use Rattle.station_step.specs.declared.source.Source.{Source}
use Rattle.station_step.specs.Shelf.{WorkShelf, log_on, new_queue}
use Rattle.station_step.specs.Ends.{bare_outlet, HasRingRoom, IsUntaken, IsUnfilled}
use Rattle.station_step.specs.Input.{empty_handed}
use Rattle.station_step.specs.Station.{WorkStation, IsStation, ComeFrom, TakeLater, outlet_at, bare_input, new_station}
use Rattle.station_step.specs.Kept.{IsFresh, IsKept}
use Rattle.station_step.proofs.Posts.{come-same, later-same}
use Rattle.line_worker.specs.Share.{worker_of, first_of}
use Rattle.line_worker.specs.Team.{WorkTeam, AreAt, member, no_station}
use Rattle.line_worker.proofs.Share.{first-rises, first-all, worker_is}
use Rattle.line_setup.specs.Making.{QueueEnds, outlets_at, inlets_at, firsts_at, arcs_at, source_of, bare_shelf, new_shelf, without, MayShelve, HaveSources, AreFit, AreFitFrom, IsNewStation, AreNewStations, SameStationsFrom, SameShelvesFrom, AreNewLogs, IsNewTeam, AreNewTeams}

-- ---- one station

-- a station can be made of these ends and these dates
pub record CanMake (g : Parts) (t : ℕ) (out : List Outlet) (into : List Inlet) (dates : List ℕ) : Type 0 where
  pub an_inlet_each : length into ≡ length (ins g t)
  pub an_outlet_each : length out ≡ length (outs g t)
  pub ring_room : (k : ℕ) → k < length out → HasRingRoom (jobs g - length dates) (outlet_at out k)
  pub untaken : All IsUntaken into
  pub unfilled : All IsUnfilled out

untaken-all : (into : List Inlet) → ((k : ℕ) → k < length into → IsUntaken (get_or into k (inlet.Local 0))) → All IsUntaken into
untaken-all into each k d low = subst IsUntaken (get_or_default into k (inlet.Local 0) d low) (each k low)

unfilled-all : (out : List Outlet) → ((k : ℕ) → k < length out → IsUnfilled (outlet_at out k)) → All IsUnfilled out
unfilled-all out each k d low = subst IsUnfilled (get_or_default out k _ d low) (each k low)

pub fit_can_make : (g : Parts) (begun : State) (t : ℕ) (out : List Outlet) (into : List Inlet) (dates : List ℕ) → dates ≡ log begun t → AreFit g begun t out into → CanMake g t out into dates
fit_can_make g begun t out into dates are fit = record {
  an_inlet_each = fit.an_inlet_each;
  an_outlet_each = fit.an_outlet_each;
  ring_room = λ k low. subst (λ (l : List ℕ). HasRingRoom (jobs g - length l) (outlet_at out k)) (sym are) (fit.room k low);
  untaken = untaken-all into fit.untaken;
  unfilled = unfilled-all out fit.unfilled;
}

-- the same ends, as the code took them
pub can_make_read : (g : Parts) (begun : State) (t : ℕ) (ends : QueueEnds) (out : List Outlet) (into : List Inlet) (dates : List ℕ) → dates ≡ log begun t → out ≡ outlets_at ends t → into ≡ inlets_at ends t → AreFit g begun t (outlets_at ends t) (inlets_at ends t) → CanMake g t out into dates
can_make_read g begun t ends out into dates are outs ins fit =
    subst (λ (o : List Outlet). CanMake g t o into dates) (sym outs) (
    subst (λ (i : List Inlet). CanMake g t (outlets_at ends t) i dates) (sym ins) (
    fit_can_make g begun t (outlets_at ends t) (inlets_at ends t) dates are fit))

pub new_station-is : (g : Parts) (begun : State) (t : ℕ) (ends : QueueEnds) (out : List Outlet) (into : List Inlet) (copy : RoomyLog) (r : Result WorkStation AllocError) → out ≡ outlets_at ends t → into ≡ inlets_at ends t → copy.dates ≡ log begun t → IfOk r (λ s. s ≡ new_station g t into out copy) → IfOk r IsStation → IfOk r (λ s. (shelf : List PlainQueue) → IsFresh shelf s → IsKept shelf s) → IfOk r (IsNewStation g begun t (outlets_at ends t) (inlets_at ends t))
new_station-is g begun t ends out into copy (Ok s) outs ins dates made station kept = record {
  graph = ap (λ (m : WorkStation). m.graph) made;
  number = ap (λ (m : WorkStation). m.number) made;
  inputs = ap (λ (m : WorkStation). m.inputs) made ∙ ap (map empty_handed) ins;
  outlets = ap (λ (m : WorkStation). m.outlets) made ∙ outs;
  dates = ap (λ (m : WorkStation). m.log.dates) made ∙ dates;
  made = ap (λ (m : WorkStation). m.made) made ∙ ap length dates;
  turns = ap (λ (m : WorkStation). m.turns) made;
  station = station;
  kept = kept;
}
new_station-is g begun t ends out into copy (Err e) outs ins dates made station kept = tt

-- ---- a shelf

-- the sources of one more queue
pub one_more_source : (g : Parts) (first : ℕ) (arcs : List ℕ) (q a : ℕ) (made more : List Source) (s : Source) → q < length arcs → a ≡ get_or arcs q a → made ≡ map (source_of g first) (take q arcs) → s ≡ source_of g first a → more ≡ made ++ s ∷ [] → more ≡ map (source_of g first) (take (q + 1) arcs)
one_more_source g first arcs q a made more s low at before is pushed =
    let sources = map (source_of g first) (take q arcs) in
    pushed
    ∙ ap (λ (l : List Source). l ++ s ∷ []) before
    ∙ ap (λ (m : Source). sources ++ m ∷ []) (is ∙ ap (source_of g first) at)
    ∙ sym (map_more (source_of g first) arcs q a low)

module _ (g : Parts) (firsts : List (Vec ℕ Global)) where
  abbrev tokens_of : Vec ℕ Global → List ℕ
  tokens_of v = v.items

  pub shelve_few : MayShelve g (map tokens_of firsts) → length firsts < 2 ^ 32
  shelve_few may = omega (arith, may.few, length-map firsts tokens_of)

  module _ (room : ℕ) (jobs_are : room ≡ jobs g) where
    pub shelve_small : MayShelve g (map tokens_of firsts) → All (λ (tokens : Vec ℕ Global). length tokens.items + room < 2 ^ 32) firsts
    shelve_small may k d low =
        omega (arith, may.small k (omega (arith, low, length-map firsts tokens_of)), ap length (get_or-map tokens_of firsts k d [] low), jobs_are)

    pub new_shelf-is : (r : Result WorkShelf AllocError) → IfOk r (λ shelf. shelf.queues ≡ map (λ (tokens : Vec ℕ Global). new_queue room tokens.items) firsts) → IfOk r (λ shelf. shelf.queues ≡ new_shelf g (map tokens_of firsts))
    new_shelf-is (Ok shelf) made =
        made
        ∙ ap (λ n. map (λ (tokens : Vec ℕ Global). new_queue n tokens.items) firsts) jobs_are
        ∙ sym (map-map (new_queue (jobs g)) tokens_of firsts)
    new_shelf-is (Err e) made = tt

-- ---- one more station

pub same-all : (t : ℕ) (ends : QueueEnds) → SameStationsFrom t ends ends
same-all t ends = record { outlet_lists = refl; inlet_lists = refl; outlets = λ u _. refl; inlets = λ u _. refl }

pub same-without : (t : ℕ) (old new left : QueueEnds) → SameStationsFrom t old new → left ≡ without new t → SameStationsFrom (t + 1) old left
same-without t old new left same left_is = record {
  outlet_lists = ap (λ (e : QueueEnds). length e.outlets) left_is ∙ length-set new.outlets t [] ∙ same.outlet_lists;
  inlet_lists = ap (λ (e : QueueEnds). length e.inlets) left_is ∙ length-set new.inlets t [] ∙ same.inlet_lists;
  outlets = λ u late.
      let other : u ≢ t = omega arith in
      ap (λ (e : QueueEnds). outlets_at e u) left_is ∙ get_or-set_other new.outlets t u [] [] other ∙ same.outlets u (omega arith);
  inlets = λ u late.
      let other : u ≢ t = omega arith in
      ap (λ (e : QueueEnds). inlets_at e u) left_is ∙ get_or-set_other new.inlets t u [] [] other ∙ same.inlets u (omega arith);
}

pub same-then : (t u : ℕ) (old new left : QueueEnds) → t ≤ u → SameStationsFrom t old new → SameStationsFrom u new left → SameStationsFrom u old left
same-then t u old new left low first then = record {
  outlet_lists = then.outlet_lists ∙ first.outlet_lists;
  inlet_lists = then.inlet_lists ∙ first.inlet_lists;
  outlets = λ v late. then.outlets v late ∙ first.outlets v (omega arith);
  inlets = λ v late. then.inlets v late ∙ first.inlets v (omega arith);
}

pub fit-same : (g : Parts) (begun : State) (first t : ℕ) (old new : QueueEnds) → first ≤ t → SameStationsFrom t old new → AreFitFrom g begun first old → AreFitFrom g begun t new
fit-same g begun first t old new low same fit = record {
  outlet_lists = same.outlet_lists ∙ fit.outlet_lists;
  inlet_lists = same.inlet_lists ∙ fit.inlet_lists;
  each = λ u late there.
      subst (λ (o : List Outlet). AreFit g begun u o (inlets_at new u)) (sym (same.outlets u late)) (
      subst (λ (i : List Inlet). AreFit g begun u (outlets_at old u) i) (sym (same.inlets u late)) (
      fit.each u (omega arith) there));
}

-- where a shelf alone was taken, the stations' ends are as they were
module _ (t : ℕ) (old left : QueueEnds) (shelves : List (List (List ℕ))) (arcs : List (List ℕ)) (left_is : left ≡ record old { shelves = shelves; arcs = arcs }) where
  pub fit-unshelved : (g : Parts) (begun : State) → AreFitFrom g begun t old → AreFitFrom g begun t left
  fit-unshelved g begun fit =
      subst (λ (e : QueueEnds). AreFitFrom g begun t e) (sym left_is) (record { outlet_lists = fit.outlet_lists; inlet_lists = fit.inlet_lists; each = fit.each })

  pub same-unshelved : (new : QueueEnds) → SameStationsFrom t left new → SameStationsFrom t old new
  same-unshelved new same =
      let is : SameStationsFrom t (record old { shelves = shelves; arcs = arcs }) new =
      subst (λ (e : QueueEnds). SameStationsFrom t e new) left_is same in
      record { outlet_lists = is.outlet_lists; inlet_lists = is.inlet_lists; outlets = is.outlets; inlets = is.inlets }

pub none_made : (g : Parts) (begun : State) (first : ℕ) (ends : QueueEnds) (made : List WorkStation) → made ≡ [] → AreNewStations g begun first ends made
none_made g begun first ends made none = record { each = λ i low. absurd (omega (arith, ap length none)) }

pub one_more_made : (g : Parts) (begun : State) (first t : ℕ) (ends now : QueueEnds) (made : List WorkStation) (s : WorkStation) → SameStationsFrom t ends now → first + length made ≡ t → AreNewStations g begun first ends made → IsNewStation g begun t (outlets_at now t) (inlets_at now t) s → AreNewStations g begun first ends (made ++ s ∷ [])
one_more_made g begun first t ends now made s same count before new = record {
  each = λ i low.
      ⊎_elim
      (λ early.
      subst (λ (m : WorkStation). IsNewStation g begun (first + i) (outlets_at ends (first + i)) (inlets_at ends (first + i)) m) (sym (get_or_append_left made (s ∷ []) no_station i early)) (
      before.each i early))
      (λ late.
      let last : length made ≡ i = omega (arith, length_push made s) in
      let here : first + i ≡ t = omega arith in
      let at_t : IsNewStation g begun t (outlets_at ends t) (inlets_at ends t) s =
      subst (λ (o : List Outlet). IsNewStation g begun t o (inlets_at ends t) s) (same.outlets t (omega arith)) (
      subst (λ (l : List Inlet). IsNewStation g begun t (outlets_at now t) l s) (same.inlets t (omega arith)) new) in
      subst (λ (m : WorkStation). IsNewStation g begun (first + i) (outlets_at ends (first + i)) (inlets_at ends (first + i)) m) (sym (get_or_push made s no_station i last)) (
      subst (λ (u : ℕ). IsNewStation g begun u (outlets_at ends u) (inlets_at ends u) s) (sym here) at_t))
      (cases_lt i (length made));
}

-- ---- one more team

pub shelves-all : (w : ℕ) (ends : QueueEnds) → SameShelvesFrom w ends ends
shelves-all w ends = record { count = refl; shelves = λ v _. refl; arc_count = refl; arcs = λ v _. refl }

pub shelves-without : (w : ℕ) (old left : QueueEnds) → left.shelves ≡ set old.shelves w [] → left.arcs ≡ set old.arcs w [] → SameShelvesFrom (w + 1) old left
shelves-without w old left left_is arcs_are = record {
  count = ap length left_is ∙ length-set old.shelves w [];
  shelves = λ v late.
      let other : v ≢ w = omega arith in
      ap (λ l. get_or l v []) left_is ∙ get_or-set_other old.shelves w v [] [] other;
  arc_count = ap length arcs_are ∙ length-set old.arcs w [];
  arcs = λ v late.
      let other : v ≢ w = omega arith in
      ap (λ l. get_or l v []) arcs_are ∙ get_or-set_other old.arcs w v [] [] other;
}

pub shelves-then : (w : ℕ) (old new left : QueueEnds) → SameShelvesFrom w old new → SameShelvesFrom (w + 1) new left → SameShelvesFrom (w + 1) old left
shelves-then w old new left first then = record {
  count = then.count ∙ first.count;
  shelves = λ v late. then.shelves v late ∙ first.shelves v (omega arith);
  arc_count = then.arc_count ∙ first.arc_count;
  arcs = λ v late. then.arcs v late ∙ first.arcs v (omega arith);
}

stations-same : (g : Parts) (begun : State) (first : ℕ) (old new : QueueEnds) (made : List WorkStation) → SameStationsFrom first old new → AreNewStations g begun first new made → AreNewStations g begun first old made
stations-same g begun first old new made same are = record {
  each = λ i low.
      let t = first + i in
      subst (λ (o : List Outlet). IsNewStation g begun t o (inlets_at old t) (member made i)) (same.outlets t (omega arith)) (
      subst (λ (l : List Inlet). IsNewStation g begun t (outlets_at new t) l (member made i)) (same.inlets t (omega arith)) (are.each i low));
}

pub team-same : (g : Parts) (begun : State) (worker_count w : ℕ) (old new : QueueEnds) (team : WorkTeam) → SameStationsFrom (first_of worker_count (stations g) w) old new → SameShelvesFrom w old new → IsNewTeam g begun worker_count new w team → IsNewTeam g begun worker_count old w team
team-same g begun worker_count w old new team same shelves is = record {
  size = is.size;
  stations = stations-same g begun (first_of worker_count (stations g) w) old new team.stations same is.stations;
  shelf = is.shelf ∙ ap (new_shelf g) (shelves.shelves w (omega arith));
}

-- the team that is made of a worker's stations and of its shelf
pub new_team-is : (g : Parts) (begun : State) (worker_count w first next many : ℕ) (ends left : QueueEnds) (shelves : List (List (List ℕ))) (arcs : List (List ℕ)) (firsts : List (List ℕ)) (team : WorkTeam) → many ≡ stations g → first ≡ first_of worker_count many w → next ≡ first_of worker_count many (w + 1) → left ≡ record ends { shelves = shelves; arcs = arcs } → firsts ≡ firsts_at ends w → first + length team.stations ≡ next → AreNewStations g begun first left team.stations → team.shelf ≡ new_shelf g firsts → IsNewTeam g begun worker_count ends w team
new_team-is g begun worker_count w first next many ends left shelves arcs firsts team many_is first_is next_is left_is firsts_are count are shelf =
    let at : first ≡ first_of worker_count (stations g) w = first_is ∙ ap (λ n. first_of worker_count n w) many_is in
    let made : AreNewStations g begun first (record ends { shelves = shelves; arcs = arcs }) team.stations =
    subst (λ (e : QueueEnds). AreNewStations g begun first e team.stations) left_is are in
    let kept : AreNewStations g begun first ends team.stations = record { each = made.each } in
    record {
      size = ap (λ n. n + length team.stations) (sym at) ∙ count ∙ next_is ∙ ap (λ n. first_of worker_count n (w + 1)) many_is;
      stations = subst (λ (n : ℕ). AreNewStations g begun n ends team.stations) at kept;
      shelf = shelf ∙ ap (new_shelf g) firsts_are;
    }

pub one_more_team : (g : Parts) (begun : State) (worker_count w : ℕ) (ends : QueueEnds) (teams : List WorkTeam) (team : WorkTeam) → length teams ≡ w → AreNewTeams g begun worker_count ends teams → IsNewTeam g begun worker_count ends w team → AreNewTeams g begun worker_count ends (teams ++ team ∷ [])
one_more_team g begun worker_count w ends teams team count before new v low =
    let none : WorkTeam = record { stations = []; shelf = [] } in
    ⊎_elim
    (λ early.
    subst (λ (m : WorkTeam). IsNewTeam g begun worker_count ends v m) (sym (get_or_append_left teams (team ∷ []) none v early)) (before v early))
    (λ late.
    let last : length teams ≡ v = omega (arith, length_push teams team) in
    let here : w ≡ v = omega arith in
    subst (λ (m : WorkTeam). IsNewTeam g begun worker_count ends v m) (sym (get_or_push teams team none v last)) (
    subst (λ (u : ℕ). IsNewTeam g begun worker_count ends u team) here new))
    (cases_lt v (length teams))

-- the stations of a worker are there
pub next-below : (worker_count stations w : ℕ) → 1 ≤ stations → w < worker_count → first_of worker_count stations (w + 1) ≤ stations
next-below worker_count stations w any low =
    omega (arith, first-rises worker_count stations (omega arith) any (w + 1) worker_count (omega arith), first-all worker_count stations (omega arith) any)

pub next-rises : (worker_count stations w : ℕ) → 1 ≤ stations → w < worker_count → first_of worker_count stations w ≤ first_of worker_count stations (w + 1)
next-rises worker_count stations w any low = first-rises worker_count stations (omega arith) any w (w + 1) (omega arith)

-- where the stations' ends and the shelves are as they were, the queues have their sources
pub sources-same : (g : Parts) (worker_count w : ℕ) (old new : QueueEnds) → SameStationsFrom (first_of worker_count (stations g) w) old new → SameShelvesFrom w old new → HaveSources g worker_count old w → HaveSources g worker_count new w
sources-same g worker_count w old new same shelves have =
    let first = first_of worker_count (stations g) w in
    let arcs = shelves.arcs w (omega arith) in
    let firsts = shelves.shelves w (omega arith) in
    let many = ap length arcs in
    let shelf : List ℕ → List (List ℕ) → WorkShelf = λ a f. record { logs = []; sources = map (source_of g first) a; queues = new_shelf g f } in
    record {
      count = many ∙ have.count ∙ ap length (sym firsts);
      exist = λ q low. subst (λ (l : List ℕ). slice_index l q < arc_count g) (sym arcs) (have.exist q (omega (arith, low, many)));
      own = λ q low. subst (λ (l : List ℕ). worker_of worker_count (stations g) (arc g (slice_index l q)).from ≡ w) (sym arcs) (have.own q (omega (arith, low, many)));
      come = λ t i there owned at.
          subst (λ (l : List ℕ). ComeFrom i (map (delay g) (outs g t)) (shelf l (firsts_at new w)) (outlets_at new t)) (sym arcs) (
          subst (λ (f : List (List ℕ)). ComeFrom i (map (delay g) (outs g t)) (shelf (arcs_at old w) f) (outlets_at new t)) (sym firsts) (
          subst (λ (o : List Outlet). ComeFrom i (map (delay g) (outs g t)) (bare_shelf g worker_count old w) o) (sym (same.outlets t (omega (arith, at)))) (
          have.come t i there owned at)));
      later = λ t i there owned at.
          subst (λ (l : List ℕ). TakeLater (map (delay g) (ins g t)) (map (source_of g first) l) (map empty_handed (inlets_at new t))) (sym arcs) (
          subst (λ (l : List Inlet). TakeLater (map (delay g) (ins g t)) (map (source_of g first) (arcs_at old w)) (map empty_handed l)) (sym (same.inlets t (omega (arith, at)))) (
          have.later t i there owned at));
    }

-- the stations of a worker, as its shelf has their logs
pub new-stands : (g : Parts) (begun : State) (worker_count w : ℕ) (ends : QueueEnds) (shelf : WorkShelf) (made : List WorkStation) (logs : List RoomyLog) → 1 ≤ stations g → w < worker_count → first_of worker_count (stations g) w + length made ≡ first_of worker_count (stations g) (w + 1) → AreNewStations g begun (first_of worker_count (stations g) w) ends made → ((i : ℕ) → i < length made → (member made i).log ≡ log_on logs i) → length logs ≡ length made → shelf.logs ≡ logs → shelf.sources ≡ map (source_of g (first_of worker_count (stations g) w)) (arcs_at ends w) → length shelf.queues ≡ length (firsts_at ends w) → HaveSources g worker_count ends w → AreAt shelf made
new-stands g begun worker_count w ends shelf made logs any low size are logs_are count shelf_logs sources queues have =
    let first = first_of worker_count (stations g) w in
    record {
      count = ap length shelf_logs ∙ count;
      each = λ i i_low.
          let s = member made i in
          let t = first + i in
          let is = are.each i i_low in
          let there : t < stations g = omega (arith, i_low, size, next-below worker_count (stations g) w any low) in
          let owned : worker_of worker_count (stations g) t ≡ w =
          worker_is worker_count (stations g) (omega (arith, low)) any w t (omega arith) (omega (arith, i_low, size)) in
          record {
            there = omega (arith, i_low, ap length shelf_logs, count);
            log = ap (λ (l : List RoomyLog). log_on l i) shelf_logs ∙ sym (logs_are i i_low);
            come = come-same i (map (delay g) (outs g t)) (map (delay s.graph) (outs s.graph s.number)) (bare_shelf g worker_count ends w) shelf (outlets_at ends t) s.outlets
                (ap (λ (h : Parts). map (delay h) (outs h s.number)) is.graph ∙ ap (λ n. map (delay g) (outs g n)) is.number)
                sources
                (queues ∙ sym (length-map (firsts_at ends w) (new_queue (jobs g))))
                (ap length is.outlets)
                (ap (map bare_outlet) is.outlets)
                (have.come t i there owned refl);
            later = later-same (map (delay g) (ins g t)) (map (delay s.graph) (ins s.graph s.number)) (bare_shelf g worker_count ends w) shelf (map empty_handed (inlets_at ends t)) s.inputs
                (ap (λ (h : Parts). map (delay h) (ins h s.number)) is.graph ∙ ap (λ n. map (delay g) (ins g n)) is.number)
                sources
                (ap length is.inputs)
                (ap (map bare_input) is.inputs)
                (have.later t i there owned refl);
          };
    }

-- one log more
pub one_more_log : (g : Parts) (begun : State) (first t : ℕ) (logs now : List RoomyLog) (copy : RoomyLog) → now ≡ logs ++ copy ∷ [] → first + length logs ≡ t → AreNewLogs g begun first logs → copy.dates ≡ log begun t → copy.room ≡ jobs g → length (log begun t) ≤ jobs g → AreNewLogs g begun first now
one_more_log g begun first t logs now copy pushed count are dates room few =
    let none : RoomyLog = record { dates = []; room = 0 } in
    let early : (i : ℕ) → i < length logs → log_on (logs ++ copy ∷ []) i ≡ log_on logs i = λ i low. get_or_append_left logs (copy ∷ []) none i low in
    let late : (i : ℕ) → i < length (logs ++ copy ∷ []) → length logs ≤ i → log_on (logs ++ copy ∷ []) i ≡ copy =
    λ i low past. get_or_push logs copy none i (omega (arith, low, past, length_push logs copy)) in
    let at : (i : ℕ) → i < length (logs ++ copy ∷ []) → length logs ≤ i → t ≡ first + i =
    λ i low past. omega (arith, low, past, length_push logs copy, count) in
    subst (AreNewLogs g begun first) (sym pushed) (record {
      dates = λ i low.
          ⊎_elim
          (λ before. ap (λ (l : RoomyLog). l.dates) (early i before) ∙ are.dates i before)
          (λ past. ap (λ (l : RoomyLog). l.dates) (late i low past) ∙ dates ∙ ap (log begun) (at i low past))
          (cases_lt i (length logs));
      room = λ i low.
          ⊎_elim
          (λ before. ap (λ (l : RoomyLog). l.room) (early i before) ∙ are.room i before)
          (λ past. ap (λ (l : RoomyLog). l.room) (late i low past) ∙ room)
          (cases_lt i (length logs));
      few = λ i low.
          ⊎_elim
          (λ before. omega (arith, ap (λ (l : RoomyLog). length l.dates) (early i before), are.few i before))
          (λ past. omega (arith, ap (λ (l : RoomyLog). length l.dates) (late i low past), ap length dates, few))
          (cases_lt i (length logs));
    })

pub no_logs : (g : Parts) (begun : State) (first : ℕ) (logs : List RoomyLog) → logs ≡ [] → AreNewLogs g begun first logs
no_logs g begun first logs none = record {
  dates = λ i low. absurd (omega (arith, low, ap length none));
  room = λ i low. absurd (omega (arith, low, ap length none));
  few = λ i low. absurd (omega (arith, low, ap length none));
}

pub no_stations : (g : Parts) (begun : State) (first : ℕ) (ends : QueueEnds) (made : List WorkStation) → made ≡ [] → AreNewStations g begun first ends made
no_stations g begun first ends made none = record { each = λ i low. absurd (omega (arith, low, ap length none)) }

-- one station more goes on from its log
pub one_more_with_log : (first t : ℕ) (logs : List RoomyLog) (made : List WorkStation) (s : WorkStation) (copy : RoomyLog) → first + length made ≡ t → copy ≡ log_on logs (t - first) → s.log ≡ copy → ((i : ℕ) → i < length made → (member made i).log ≡ log_on logs i) → (i : ℕ) → i < length (made ++ s ∷ []) → (member (made ++ s ∷ []) i).log ≡ log_on logs i
one_more_with_log first t logs made s copy count at is before i low =
    ⊎_elim
    (λ early. ap (λ (m : WorkStation). m.log) (get_or_append_left made (s ∷ []) no_station i early) ∙ before i early)
    (λ late.
    let last : length made ≡ i = omega (arith, low, late, length_push made s) in
    let here : t - first ≡ i = omega (arith, last, count) in
    ap (λ (m : WorkStation). m.log) (get_or_push made s no_station i last) ∙ is ∙ at ∙ ap (log_on logs) here)
    (cases_lt i (length made))

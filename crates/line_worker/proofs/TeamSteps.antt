-- A step of one station among those of a team.
use Rattle.std.proofs.Common.{◌≡◌, ◌≢◌, ℕ, ◌+◌, ◌<◌, ◌≤◌, List, [], ◌∷◌, ◌++◌, map, take, length, get_or, set, refl, ap, ◌∙◌, sym, subst, arith, ⊎_elim, inl, inr, length-append}
use Rattle.std.specs.List.{sum_by}
use Rattle.std.proofs.lemmas.Bool.{cases_eq}
use Rattle.std.proofs.lemmas.List.{length-map, length-set, get_or_read, get_or-set_same, get_or-set_other, take-append-le, take_all}
use Rattle.std.proofs.lemmas.List.Sums.{sum_by-set}
use Rattle.line_base.specs.declared.event.Parts.{Parts}
use Rattle.line_base.specs.Roomy.{RoomyLog}
use Rattle.card_queue.specs.Plain.{PlainQueue}
use Rattle.event_graph.specs.Network.{stations}
use Rattle.event_graph.specs.State.{State}
use Rattle.station_step.specs.declared.stepped.Stepped.{Stepped}
use Rattle.station_step.specs.declared.stepped.Stepped.TheVariants.{Fired, Blocked, Full, Done}
use Rattle.station_step.specs.Ends.{bare_outlet}
use Rattle.station_step.specs.Input.{NoneTakes, input_at}
use Rattle.station_step.specs.Station.{WorkStation, IsStation, IsSeated, AreApart, NonePuts, bare_station, bare_input, outlet_at}
use Rattle.station_step.specs.Kept.{IsKept}
use Rattle.station_step.specs.Step.{IsReady, MovesItsOwn, HasFired, Did}
use Rattle.station_step.proofs.KeptStations.{seated-same}
use Rattle.station_step.proofs.OwnQueues.{input-same, outlet-same, inlet_queue-same, outlet_queue-same}
use Rattle.line_worker.specs.Share.{first_of}
use Rattle.line_worker.specs.Team.{WorkTeam, IsMember, IsTeam, member, no_station}
use Rattle.line_worker.specs.Worker.{LineWorker, IsWorker, IsOrder, with_team}
use Rattle.line_worker.specs.Work.{dates_of, dates_made, HasWorked, SteppedAt}

-- ---- a station that is the same but for what it took, put and made

pub graph-same : (before after : WorkStation) → bare_station after ≡ bare_station before → after.graph ≡ before.graph
graph-same before after same = ap (λ (s : WorkStation). s.graph) same

pub number-same : (before after : WorkStation) → bare_station after ≡ bare_station before → after.number ≡ before.number
number-same before after same = ap (λ (s : WorkStation). s.number) same

pub made-same : (before after : WorkStation) → bare_station after ≡ bare_station before → after.made ≡ before.made
made-same before after same = ap (λ (s : WorkStation). s.made) same

pub inputs-same : (before after : WorkStation) → bare_station after ≡ bare_station before → map bare_input after.inputs ≡ map bare_input before.inputs
inputs-same before after same = ap (λ (s : WorkStation). s.inputs) same

pub outlets-same : (before after : WorkStation) → bare_station after ≡ bare_station before → map bare_outlet after.outlets ≡ map bare_outlet before.outlets
outlets-same before after same = ap (λ (s : WorkStation). s.outlets) same

pub inputs-count : (before after : WorkStation) → bare_station after ≡ bare_station before → length after.inputs ≡ length before.inputs
inputs-count before after same =
    sym (length-map after.inputs bare_input) ∙ ap length (inputs-same before after same) ∙ length-map before.inputs bare_input

pub outlets-count : (before after : WorkStation) → bare_station after ≡ bare_station before → length after.outlets ≡ length before.outlets
outlets-count before after same =
    sym (length-map after.outlets bare_outlet) ∙ ap length (outlets-same before after same) ∙ length-map before.outlets bare_outlet

none_takes-same : (before after : WorkStation) (q : ℕ) → bare_station after ≡ bare_station before → NoneTakes q before.inputs → NoneTakes q after.inputs
none_takes-same before after q same none k low takes =
    none k (omega (arith, inputs-count before after same)) (
    sym (inlet_queue-same (input_at before.inputs k).inlet (input_at after.inputs k).inlet (input-same before.inputs after.inputs k (inputs-same before after same)))
    ∙ takes)

none_puts-same : (before after : WorkStation) (q : ℕ) → bare_station after ≡ bare_station before → NonePuts q before.outlets → NonePuts q after.outlets
none_puts-same before after q same none k low puts =
    none k (omega (arith, outlets-count before after same)) (
    sym (outlet_queue-same (outlet_at before.outlets k) (outlet_at after.outlets k) (outlet-same before.outlets after.outlets k (outlets-same before after same)))
    ∙ puts)

-- stations that use no queue together still use none
pub apart-same : (s s' t t' : WorkStation) → bare_station s' ≡ bare_station s → bare_station t' ≡ bare_station t → AreApart s t → AreApart s' t'
apart-same s s' t t' same same' apart = record {
  takes = λ q. ⊎_elim (λ none. inl (none_takes-same s s' q same none)) (λ none. inr (none_takes-same t t' q same' none)) (apart.takes q);
  puts = λ q. ⊎_elim (λ none. inl (none_puts-same s s' q same none)) (λ none. inr (none_puts-same t t' q same' none)) (apart.puts q);
}

-- ---- what a step says

-- the log has the same dates, or one more
pub data Gains (before after : WorkStation) : Type 0 where
  none : after.log.dates ≡ before.log.dates → Gains before after
  one : (date : ℕ) → after.log.dates ≡ before.log.dates ++ date ∷ [] → Gains before after

pub record IsStep (old new : List PlainQueue) (before after : WorkStation) : Type 0 where
  pub turn : after.turns ≡ before.turns + 1
  pub same : bare_station after ≡ bare_station before
  pub station : IsStation after
  pub seated : IsSeated new after
  pub gains : Gains before after
  pub fires : IsReady old before → dates_of after ≡ dates_of before + 1
  pub kept : IsKept old before → IsKept new after
  pub own : MovesItsOwn before old new
  pub others : (other : WorkStation) → IsStation other → AreApart before other → IsKept old other → IsKept new other
  pub ready : (other : WorkStation) → AreApart before other → IsReady old other → IsReady new other

pub gains-did : (r : Stepped) (old new : List PlainQueue) (before after : WorkStation) → Did r old new before after → Gains before after
gains-did Fired old new before after did = one (get_or after.log.dates (length before.log.dates) 0) (ap (λ (l : RoomyLog). l.dates) did.log)
gains-did (Blocked _) old new before after did = none (ap (λ (l : RoomyLog). l.dates) did.log)
gains-did (Full _) old new before after did = none (ap (λ (l : RoomyLog). l.dates) did.refilled.log)
gains-did Done old new before after did = none (ap (λ (s : WorkStation). s.log.dates) did.station)

pub more-did : (r : Stepped) (old new : List PlainQueue) (before after : WorkStation) → HasFired r → Did r old new before after → dates_of after ≡ dates_of before + 1
more-did Fired old new before after fired did =
    ap (λ (l : RoomyLog). length l.dates) did.log ∙ length-append before.log.dates (get_or after.log.dates (length before.log.dates) 0 ∷ [])
more-did (Blocked _) old new before after fired did = absurd fired
more-did (Full _) old new before after fired did = absurd fired
more-did Done old new before after fired did = absurd fired

kept-gains : (before after : WorkStation) → Gains before after → (n : ℕ) → n ≤ dates_of before → take n after.log.dates ≡ take n before.log.dates
kept-gains before after (none same) n low = ap (take n) same
kept-gains before after (one date more) n low = ap (take n) more ∙ take-append-le n before.log.dates (date ∷ []) low

gains-le : (before after : WorkStation) → Gains before after → dates_of after ≤ dates_of before + 1
gains-le before after (none same) = omega (arith, ap length same)
gains-le before after (one date more) = omega (arith, ap length more ∙ length-append before.log.dates (date ∷ []))

pub step_is_work : (old new : List PlainQueue) (before after : WorkStation) → IsStep old new before after → HasWorked before after
step_is_work old new before after step = record {
  same = step.same;
  kept = kept-gains before after step.gains (dates_of before) (omega arith) ∙ take_all (dates_of before) before.log.dates (omega arith);
  turned = omega (arith, step.turn);
  steps = omega (arith, step.turn, gains-le before after step.gains);
}

-- ---- the team

-- what a station keeps in its line, it keeps
pub member-after : (g : Parts) (begun : State) (t : ℕ) (old new : List PlainQueue) (before after : WorkStation) → IsStep old new before after → IsMember g begun t old before → IsMember g begun t new after
member-after g begun t old new before after step m = record {
  graph = graph-same before after step.same ∙ m.graph;
  number = number-same before after step.same ∙ m.number;
  station = step.station;
  seated = step.seated;
  kept = step.kept m.kept;
  made = made-same before after step.same ∙ m.made;
  begins =
      ap (λ n. take n after.log.dates) (made-same before after step.same)
      ∙ kept-gains before after step.gains before.made m.station.made
      ∙ m.begins;
}

-- the team where station i is another one, which is the same but for what it took, put and made
module _ (g : Parts) (begun : State) (first : ℕ) (team : WorkTeam) (is : IsTeam g begun first team) (i : ℕ) (there : i < length team.stations) (shelf : List PlainQueue) (after : WorkStation) (same_i : bare_station after ≡ bare_station (member team.stations i)) where
  pub here : member (set team.stations i after) i ≡ after
  here = get_or-set_same team.stations i after no_station there

  pub other : (j : ℕ) → j ≢ i → member (set team.stations i after) j ≡ member team.stations j
  other j apart = get_or-set_other team.stations i j after no_station apart

  bare-next : (j : ℕ) → bare_station (member (set team.stations i after) j) ≡ bare_station (member team.stations j)
  bare-next j =
      ⊎_elim
      (λ same. ap (λ k. bare_station (member (set team.stations i after) k)) same ∙ ap bare_station here ∙ same_i ∙ ap (λ k. bare_station (member team.stations k)) (sym same))
      (λ apart. ap bare_station (other j apart))
      (cases_eq j i)

  pub team-set : IsMember g begun (first + i) shelf after → ((j : ℕ) → j < length team.stations → j ≢ i → IsMember g begun (first + j) shelf (member team.stations j)) → IsTeam g begun first (record { stations = set team.stations i after; shelf = shelf })
  team-set mine others =
      let many = length-set team.stations i after in
      let IsThere : ℕ → Type 0 = λ j. IsMember g begun (first + j) shelf (member (set team.stations i after) j) in
      record {
        members = λ j low.
            ⊎_elim
            (λ same. subst IsThere (sym same) (subst (IsMember g begun (first + i) shelf) (sym here) mine))
            (λ apart. subst (IsMember g begun (first + j) shelf) (sym (other j apart)) (others j (omega (arith, many, low)) apart))
            (cases_eq j i);
        apart = λ j k low_j low_k differ.
            apart-same
            (member team.stations j)
            (member (set team.stations i after) j)
            (member team.stations k)
            (member (set team.stations i after) k)
            (bare-next j)
            (bare-next k)
            (is.apart j k (omega (arith, many, low_j)) (omega (arith, many, low_k)) differ);
      }

module _ (g : Parts) (begun : State) (first : ℕ) (team : WorkTeam) (is : IsTeam g begun first team) (i : ℕ) (there : i < length team.stations) (shelf : List PlainQueue) (after : WorkStation) (step : IsStep team.shelf shelf (member team.stations i) after) where
  pub team-after : IsTeam g begun first (record { stations = set team.stations i after; shelf = shelf })
  team-after =
      team-set g begun first team is i there shelf after step.same
      (member-after g begun (first + i) team.shelf shelf (member team.stations i) after step (is.members i there))
      (λ j low apart.
      let was = is.members j low in
      record {
        graph = was.graph;
        number = was.number;
        station = was.station;
        seated = seated-same team.shelf shelf (member team.stations j) (member team.stations j) step.own.count refl refl refl refl was.seated;
        kept = step.others (member team.stations j) was.station (is.apart i j there low (λ e. apart (sym e))) was.kept;
        made = was.made;
        begins = was.begins;
      })

  pub stepped_at : SteppedAt i team (record { stations = set team.stations i after; shelf = shelf })
  stepped_at =
      let at = here g begun first team is i there shelf after step.same in
      record {
        only = ap (set team.stations i) (sym at);
        shelf = record { count = step.own.count; queues = step.own.made };
        worked = subst (HasWorked (member team.stations i)) (sym at) (step_is_work team.shelf shelf (member team.stations i) after step);
        turn = ap (λ (s : WorkStation). s.turns) at ∙ step.turn;
        fires = λ ready. ap dates_of at ∙ step.fires ready;
        ready = λ j low apart ready. step.ready (member team.stations j) (is.apart i j there low (λ e. apart (sym e))) ready;
        moves = step.own;
        kept = λ j low was.
            let Kept : WorkStation → Type 0 = IsKept shelf in
            ⊎_elim
            (λ same.
            let Keeps : ℕ → Type 0 = λ k. IsKept team.shelf (member team.stations k) → IsKept shelf (member (set team.stations i after) k) in
            subst Keeps (sym same) (λ kept. subst Kept (sym at) (step.kept kept)) was)
            (λ apart.
            subst Kept (sym (other g begun first team is i there shelf after step.same j apart)) (
            step.others (member team.stations j) (is.members j low).station (is.apart i j there low (λ e. apart (sym e))) was))
            (cases_eq j i);
      }

-- a worker with another team of as many stations
pub worker-with_team : (c : LineWorker) (team : WorkTeam) → IsWorker c → IsTeam c.live.graph c.begun c.first team → length team.stations ≡ length c.team.stations → IsWorker (with_team c team)
worker-with_team c team is members count =
    let ends : c.first + length team.stations ≡ first_of c.worker_count (stations c.live.graph) (c.worker_number + 1) =
    ap (λ n. c.first + n) count ∙ is.ends in
    let in_order : IsOrder c.live.ranks c.first (length team.stations) c.order =
    subst (λ n. IsOrder c.live.ranks c.first n c.order) (sym count) is.in_order in
    search

-- a worker one of whose stations makes a step
pub worker-after : (c : LineWorker) (stations : List WorkStation) (shelf shelf' : List PlainQueue) (i : ℕ) (before after : WorkStation) → IsWorker c → record { stations = stations; shelf = shelf } ≡ c.team → i < length stations → before ≡ get_or stations i before → IsStep shelf shelf' before after → IsWorker (with_team c (record { stations = set stations i after; shelf = shelf' })) × SteppedAt i c.team (record { stations = set stations i after; shelf = shelf' })
worker-after c stations shelf shelf' i before after is same there at step =
    let old : WorkTeam = record { stations = stations; shelf = shelf } in
    let new : WorkTeam = record { stations = set stations i after; shelf = shelf' } in
    let team : IsTeam c.live.graph c.begun c.first old = subst (IsTeam c.live.graph c.begun c.first) (sym same) is.members in
    let here : IsStep shelf shelf' (member stations i) after = subst (λ (s : WorkStation). IsStep shelf shelf' s after) (get_or_read stations i before there at no_station) step in (
      worker-with_team c new is
          (team-after c.live.graph c.begun c.first old team i there shelf' after here)
          (length-set stations i after ∙ ap (λ (t : WorkTeam). length t.stations) same),
      subst (λ (t : WorkTeam). SteppedAt i t new) same (stepped_at c.live.graph c.begun c.first old team i there shelf' after here),
    )

-- a station of a worker is in its place
pub member-in : (c : LineWorker) (stations : List WorkStation) (shelf : List PlainQueue) (i : ℕ) (before : WorkStation) → IsWorker c → record { stations = stations; shelf = shelf } ≡ c.team → i < length stations → before ≡ get_or stations i before → IsMember c.live.graph c.begun (c.first + i) shelf before
member-in c stations shelf i before is same there at =
    let old : WorkTeam = record { stations = stations; shelf = shelf } in
    let team : IsTeam c.live.graph c.begun c.first old = subst (IsTeam c.live.graph c.begun c.first) (sym same) is.members in
    subst (IsMember c.live.graph c.begun (c.first + i) shelf) (sym (get_or_read stations i before there at no_station)) (team.members i there)

-- a station that was found at its number in the team
pub found-in : (seen now : LineWorker) (stations : List WorkStation) (shelf : List PlainQueue) (i : ℕ) (before : WorkStation) → seen ≡ now → record { stations = stations; shelf = shelf } ≡ seen.team → i < length stations → before ≡ get_or stations i before → before ≡ member now.team.stations i
found-in seen now stations shelf i before view same there at =
    get_or_read stations i before there at no_station
    ∙ ap (λ (t : WorkTeam). member t.stations i) same
    ∙ ap (λ (c : LineWorker). member c.team.stations i) view

pub count-in : (seen now : LineWorker) (stations : List WorkStation) (shelf : List PlainQueue) → seen ≡ now → record { stations = stations; shelf = shelf } ≡ seen.team → length stations ≡ length now.team.stations
count-in seen now stations shelf view same =
    ap (λ (t : WorkTeam). length t.stations) same ∙ ap (λ (c : LineWorker). length c.team.stations) view

-- without a firing no date comes
pub none-did : (r : Stepped) (old new : List PlainQueue) (before after : WorkStation) → (r ≡ Fired → ⊥) → Did r old new before after → dates_of after ≡ dates_of before
none-did Fired old new before after not did = absurd (not refl)
none-did (Blocked _) old new before after not did = ap (λ (l : RoomyLog). length l.dates) did.log
none-did (Full _) old new before after not did = ap (λ (l : RoomyLog). length l.dates) did.refilled.log
none-did Done old new before after not did = ap (λ (s : WorkStation). length s.log.dates) did.station

-- a station that met others
pub member-met : (g : Parts) (begun : State) (t : ℕ) (shelf : List PlainQueue) (before after : WorkStation) → bare_station after ≡ bare_station before → after.log ≡ before.log → IsStation after → (IsKept shelf before → IsKept shelf after) → IsMember g begun t shelf before → IsMember g begun t shelf after
member-met g begun t shelf before after same log_same station kept m = record {
  graph = graph-same before after same ∙ m.graph;
  number = number-same before after same ∙ m.number;
  station = station;
  seated = seated-same shelf shelf before after refl (inputs-count before after same) (outlets-count before after same) (inputs-same before after same) (outlets-same before after same) m.seated;
  kept = kept m.kept;
  made = made-same before after same ∙ m.made;
  begins =
      ap (λ n. take n after.log.dates) (made-same before after same)
      ∙ ap (λ (l : RoomyLog). take before.made l.dates) log_same
      ∙ m.begins;
}

-- the team whose station j met others, as its fields show it
pub team-met : (g : Parts) (begun : State) (first : ℕ) (stations : List WorkStation) (shelf : List PlainQueue) (team : WorkTeam) (j : ℕ) (before after : WorkStation) → record { stations = stations; shelf = shelf } ≡ team → j < length team.stations → before ≡ get_or stations j before → bare_station after ≡ bare_station before → after.log ≡ before.log → IsStation after → (IsKept shelf before → IsKept shelf after) → IsTeam g begun first team → IsTeam g begun first (record { stations = set stations j after; shelf = shelf })
team-met g begun first stations shelf team j before after view low at same log_same station kept is_team =
    let old : WorkTeam = record { stations = stations; shelf = shelf } in
    let is : IsTeam g begun first old = subst (IsTeam g begun first) (sym view) is_team in
    let there : j < length stations = omega (arith, low, ap (λ (t : WorkTeam). length t.stations) view) in
    let here : before ≡ member stations j = get_or_read stations j before there at no_station in
    team-set g begun first old is j there shelf after (same ∙ ap bare_station here)
    (member-met g begun (first + j) shelf before after same log_same station kept (subst (IsMember g begun (first + j) shelf) (sym here) (is.members j there)))
    (λ i low_i apart. is.members i low_i)

-- a worker whose team met another has as many stations, in their places
pub worker-met : (c : LineWorker) (stations : List WorkStation) (team : WorkTeam) → IsWorker c → team ≡ record { stations = stations; shelf = c.team.shelf } → length stations ≡ length c.team.stations → ((g : Parts) (begun : State) (first : ℕ) → IsTeam g begun first c.team → IsTeam g begun first team) → IsWorker (with_team c team)
worker-met c stations team is only count stays =
    worker-with_team c team is (stays c.live.graph c.begun c.first is.members) (ap (λ (t : WorkTeam). length t.stations) only ∙ count)

-- where one station made a step, the dates of the team rise by those of the station
pub dates-stepped : (i n : ℕ) (old new : WorkTeam) → i < length old.stations → SteppedAt i old new → dates_of (member new.stations i) ≡ dates_of (member old.stations i) + n → dates_made new ≡ dates_made old + n
dates-stepped i n old new there stepped fired =
    omega (arith, fired, ap (sum_by dates_of) stepped.only, sum_by-set dates_of old.stations i (member new.stations i) no_station there)

-- the station at a place of the order is one of the worker's
pub turn_of : (c : LineWorker) (place i : ℕ) → IsWorker c → place < length c.order → i ≡ get_or c.order place i → (i ≡ get_or c.order place 0) × (i < length c.team.stations)
turn_of c place i is low at =
    let here = get_or_read c.order place i low at 0 in
    (here, omega (arith, is.in_order.exists place low, here))

use Rattle.std.proofs.Common.{subst, ◌∙◌, sym, ap, ◌≡◌, ◌≢◌, ◌+◌, ◌-◌, ◌<◌, ◌++◌, ◌∷◌, [], ℕ, List, max, arith, refl, length, map, set, get_or-set_same}
use Rattle.std.proofs.lemmas.List.{length-set}
use Rattle.std.specs.List.{range_with_len}
use Rattle.std.specs.Prelude.{None, IfSome, unwrap_or}
use Rattle.line_base.specs.Roomy.{RoomyLog, with_date}
use Rattle.event_graph.specs.GreatestValue.{greatest}
use Rattle.event_graph.specs.Network.{jobs, delay, outs}
use Rattle.station_step.specs.Shelf.{log_on}
use Rattle.station_step.specs.Input.{input_at}
use Rattle.station_step.specs.Ends.{outlet_added, outlet_queue}
use Rattle.station_step.specs.Station.{WorkStation, IsStation, IsSeated, StandsAt, MayPut, outlet_at, bare_input, bare_station}
use Rattle.station_step.specs.Kept.{IsKept, date_for, saturating}
use Rattle.station_step.specs.Step.{MovesItsOwn, FiredOnce, FiresAt}
use Rattle.station_step.specs.Noted.{IsNoted, inputs_of, extras_of, outlets_of, delays_of, extras_into, delays_into}
use Rattle.station_step.specs.RingInputs.{HaveLooked, ring_asks}
use Rattle.station_step.specs.Waits.{IsWaiting}
use Rattle.station_step.specs.Fronts.{front_asks, AreFronts, IsDirect, IsReadied, AreEmptyHanded}
use Rattle.station_step.proofs.FrontsOf.{fronts-none, fronts-within, fronts-apart, fronts-later, readied-stays, any-ring-same}
use Rattle.station_step.proofs.Looked.{bare_inputs-looked}
use Rattle.station_step.proofs.WaitingStations.{waiting-at_once}
use Rattle.station_step.proofs.FullHands.{TookAtOnce, took-at_once, filled, filled-count, filled-inlet, filled-full, each-filled, latest-filled, ring_asks-looked}
use Rattle.station_step.specs.declared.input.Input.{Input}
use Rattle.station_step.proofs.Dates.{delay-noted, date_for-inside, latest-is, greatest-agree}
use Rattle.station_step.proofs.KeptStations.{kept-fires, IsFiring, fired_station, station-fires, seated-same, own-fires, grows-fires, moves-apart, bare-same, fired-once}
use Rattle.station_step.proofs.OwnQueues.{input-same}
use Rattle.station_step.proofs.Posts.{come-same, stands-same}
use Rattle.station_step.proofs.OutletLooks.{noted-same, shelf_room-after_takes, ring_room-less, space-unbounded}
use Rattle.station_step.specs.contracts.station.Station.{the_view}
use Rattle.station_step.proofs.station.Station.fire_at_once.Goals as goal
use Rattle.station_step.proofs.station.Station.fire_at_once.Goals.{After-dates, Else-not-self, Else-done-jobs, After-look_rings, After-as_slice, After-take_fronts, After-of}

-- ---- what the call finds

seated_before : (c : After-dates) → IsSeated c.args.shelf.now.queues (the_view c.self.inside)
seated_before c = subst (IsSeated c.args.shelf.now.queues) (sym c.self.view_is) c.requires.seated

some_left : (c : Else-done-jobs) → length (the_view c.self.inside).log.dates ≢ jobs (the_view c.self.inside).graph
some_left c all =
    let dates : c.dates.result.now ≡ c.self.inside.log.value.dates =
    c.dates.ensures
    ∙ ap (λ (l : RoomyLog). l.dates) (c.log.ensures ∙ c.requires.stands.log ∙ sym (ap (λ (w : WorkStation). w.log) c.self.view_is)) in
    let graph : c.graph-graph.result.now ≡ (the_view c.self.inside).graph =
    c.graph-graph.ensures.graph ∙ c.requires.made_for ∙ sym (ap (λ (w : WorkStation). w.graph) c.self.view_is) in
    c.if-done-jobs.false (ap length dates ∙ all ∙ sym (ap jobs graph) ∙ sym c.jobs.ensures.count)

dates_left : (c : Else-done-jobs) → length (the_view c.self.inside).log.dates < jobs (the_view c.self.inside).graph
dates_left c = omega (arith, some_left c, c.self.invariant.station.few_dates)

pub log-requires : goal.log-requires
log-requires c = c.requires.stands.there

-- what it keeps to fire by its fronts
direct_is : (c : Else-not-self) → IsDirect (the_view c.self.inside).graph c.self.inside.number (the_view c.self.inside).inputs c.self.inside.fronts.items c.self.inside.fixed c.self.inside.bounded
direct_is c = c.self.invariant.readied.fires (c.self.invariant.readied.may c.if-not-self.false)

-- ---- the looks at the rings

-- the inputs after them
abbrev looked : After-look_rings → List Input
looked c = inputs_of c.look_rings.new.inputs.items

have_looked : (c : After-look_rings) → HaveLooked (the_view c.self.inside) (record (the_view c.self.inside) { inputs = looked c })
have_looked c = record {
  rest = refl;
  count = c.look_rings.ensures.count;
  each = c.look_rings.ensures.looked;
}

bare_looked : (c : After-look_rings) → map bare_input (looked c) ≡ map bare_input (the_view c.self.inside).inputs
bare_looked c =
    let s = the_view c.self.inside in
    bare_inputs-looked s (record s { inputs = looked c }) (have_looked c)

pub look_rings-requires : goal.look_rings-requires
look_rings-requires c = record { noted = c.self.invariant.readied.rings_are }

-- the station that has looked keeps what it kept
station_looked : (c : After-look_rings) → IsStation (record (the_view c.self.inside) { inputs = looked c })
station_looked c =
    let s = the_view c.self.inside in
    let was = c.self.invariant.station in
    record {
      exists = was.exists;
      an_input_each = c.look_rings.ensures.count ∙ was.an_input_each;
      an_outlet_each = was.an_outlet_each;
      made = was.made;
      few_dates = was.few_dates;
      log_room = was.log_room;
      ring_room = was.ring_room;
    }

noted_looked : (c : After-look_rings) → IsNoted c.self.inside.graph.value c.self.inside.number c.look_rings.new.inputs.items c.self.inside.outlets.items c.self.inside.fixed c.self.inside.worked.items c.self.inside.bounded c.self.inside.rings
noted_looked c =
    let s = c.self.inside in
    noted-same s.graph.value s.number s.inputs.items c.look_rings.new.inputs.items s.outlets.items s.outlets.items s.fixed s.worked.items s.bounded s.rings
    (λ _. c.look_rings.ensures.extras) refl refl c.self.invariant.noted

readied_looked : (c : After-look_rings) → IsReadied c.self.inside.graph.value c.self.inside.number (looked c) c.self.inside.fronts.items c.self.inside.fixed c.self.inside.bounded c.self.inside.rings_in c.self.inside.direct c.self.inside.at_once
readied_looked c =
    let s = c.self.inside in
    readied-stays s.graph.value s.number (inputs_of s.inputs.items) (looked c) s.fronts.items s.fixed s.bounded s.rings_in s.direct s.at_once c.look_rings.ensures.count (bare_looked c)
    (λ k low. (c.look_rings.ensures.looked k low).hand) c.self.invariant.readied

waiting_looked : (c : After-look_rings) → IsWaiting c.self.inside.graph.value c.self.inside.number (looked c) c.self.inside.log.value c.self.inside.at_once c.self.inside.waits_for
waiting_looked c =
    let s = c.self.inside in
    waiting-at_once s.graph.value s.number (inputs_of s.inputs.items) (looked c) s.log.value s.log.value s.at_once s.waits_for c.if-not-self.false c.self.invariant.waiting

pub invariant_of-self : goal.invariant_of-self
invariant_of-self c =
    let from = (goal.at.invariant_of-self c).After-look_rings in
    record { station = station_looked from; noted = noted_looked from; readied = readied_looked from; waiting = waiting_looked from }

pub invariant_of-self-in_default : goal.invariant_of-self-in_default
invariant_of-self-in_default c =
    let from = (goal.at.invariant_of-self-in_default c).After-look_rings in
    record { station = station_looked from; noted = noted_looked from; readied = readied_looked from; waiting = waiting_looked from }

-- ---- the fronts and the rings

-- its fronts as the call lends them
fronts_are : (c : After-as_slice) (job : ℕ) → AreFronts (delays_into (the_view c.self.inside).graph c.self.inside.number) (extras_into (the_view c.self.inside).graph c.self.inside.number job) (the_view c.self.inside).inputs c.as_slice.result.now
fronts_are c job =
    let s = the_view c.self.inside in
    subst (AreFronts (delays_into s.graph s.number) (extras_into s.graph s.number job) s.inputs) (sym c.as_slice.ensures.value)
    ((c.self.invariant.readied.fires (c.self.invariant.readied.may c.if-not-self.false)).fronts_are job)

pub take_fronts-requires-clause-within : goal.take_fronts-requires-clause-within
take_fronts-requires-clause-within c =
    let from = goal.at.take_fronts-requires-clause-within c in
    fronts-within _ _ (the_view c.self.inside).inputs c.as_slice.result.now (fronts_are from.After-as_slice 1) (length c.args.shelf.now.queues) (seated_before from.After-dates).takes_within

pub take_fronts-requires-clause-apart : goal.take_fronts-requires-clause-apart
take_fronts-requires-clause-apart c =
    let from = goal.at.take_fronts-requires-clause-apart c in
    fronts-apart _ _ (the_view c.self.inside).inputs c.as_slice.result.now (fronts_are from.After-as_slice 1) (seated_before from.After-dates).takes_apart

pub take_fronts-requires-clause-later : goal.take_fronts-requires-clause-later
take_fronts-requires-clause-later c =
    let from = goal.at.take_fronts-requires-clause-later c in
    let s = the_view c.self.inside in
    let stands : StandsAt c.args.i c.args.shelf.now s = subst (StandsAt c.args.i c.args.shelf.now) (sym c.self.view_is) c.requires.stands in
    fronts-later _ _ s.inputs c.as_slice.result.now (fronts_are from.After-as_slice 1) c.args.shelf.now.sources stands.later

pub take_rings-date-requires-clause-noted : goal.take_rings-date-requires-clause-noted
take_rings-date-requires-clause-noted c =
    let from = goal.at.take_rings-date-requires-clause-noted c in
    c.self.invariant.readied.rings_are ∙ any-ring-same (the_view c.self.inside).inputs (looked from.After-look_rings) (bare_looked from.After-look_rings)

pub take_rings-date-requires-clause-known : goal.take_rings-date-requires-clause-known
take_rings-date-requires-clause-known c = c.look_rings.ensures.known.0 c.if-not-look_rings.false

pub put_all-requires-clause-noted : goal.put_all-requires-clause-noted
put_all-requires-clause-noted c = c.self.invariant.noted.rings_are

pub put_all-requires-clause-ring_room : goal.put_all-requires-clause-ring_room
put_all-requires-clause-ring_room c k low =
    let s = the_view c.self.inside in
    let left = dates_left (goal.at.put_all-requires-clause-ring_room c).Else-done-jobs in
    ring_room-less (jobs s.graph - length s.log.dates) 1 (outlet_at s.outlets k) (omega (arith, left)) (c.self.invariant.station.ring_room k low)

pub put_all-requires-clause-shelf_room : goal.put_all-requires-clause-shelf_room
put_all-requires-clause-shelf_room c k low =
    let s = the_view c.self.inside in
    let old = c.args.shelf.now.queues in
    let left = dates_left (goal.at.put_all-requires-clause-shelf_room c).Else-done-jobs in
    let may : MayPut old s = subst (MayPut old) (sym c.self.view_is) c.requires.may_put in
    shelf_room-after_takes old c.take_fronts.new.self.queues (outlet_at s.outlets k) c.take_fronts.ensures.only_takes (may left k low)

pub put_all-requires-clause-space : goal.put_all-requires-clause-space
put_all-requires-clause-space c k low =
    let s = the_view c.self.inside in
    space-unbounded s.outlets k (sym c.self.invariant.noted.bounded_is ∙ (direct_is (goal.at.put_all-requires-clause-space c).Else-not-self).unbounded) low

pub put_all-requires-clause-within : goal.put_all-requires-clause-within
put_all-requires-clause-within c k low =
    let s = the_view c.self.inside in
    let seated = seated_before (goal.at.put_all-requires-clause-within c).After-dates in
    subst (λ count. IfSome (outlet_queue (outlet_at s.outlets k)) (λ q. q < count)) (sym c.take_fronts.ensures.only_takes.count) (seated.puts_within k low)

pub put_all-requires-clause-there : goal.put_all-requires-clause-there
put_all-requires-clause-there c = omega (arith, c.requires.stands.there, ap length c.take_fronts.ensures.logs)

pub put_all-requires-clause-log_room : goal.put_all-requires-clause-log_room
put_all-requires-clause-log_room c =
    let s = the_view c.self.inside in
    let left = dates_left (goal.at.put_all-requires-clause-log_room c).Else-done-jobs in
    let was : log_on c.take_fronts.new.self.logs c.args.i ≡ s.log =
    ap (λ (l : List RoomyLog). log_on l c.args.i) c.take_fronts.ensures.logs ∙ c.requires.stands.log ∙ sym (ap (λ (w : WorkStation). w.log) c.self.view_is) in
    subst (λ (l : RoomyLog). length l.dates < l.room) (sym was) (omega (arith, left, c.self.invariant.station.log_room))

pub put_all-requires-clause-come : goal.put_all-requires-clause-come
put_all-requires-clause-come c =
    let s = the_view c.self.inside in
    let old = c.args.shelf.now in
    let stands : StandsAt c.args.i old s = subst (StandsAt c.args.i old) (sym c.self.view_is) c.requires.stands in
    come-same c.args.i (map (delay s.graph) (outs s.graph s.number)) (delays_of c.self.inside.outlets.items) old c.take_fronts.new.self s.outlets s.outlets
    c.self.invariant.noted.delays_are
    c.take_fronts.ensures.sources c.take_fronts.ensures.only_takes.count refl refl stands.come

pub log-requires-2 : goal.log-requires-2
log-requires-2 c =
    let mid = c.take_fronts.new.self.logs in
    let logs = length-set mid c.args.i (with_date (log_on mid c.args.i) c.take_rings-date.result) in
    omega (arith, c.requires.stands.there, ap length c.take_fronts.ensures.logs, ap length c.put_all.ensures.logs, logs)

pub overflow_add-self : goal.overflow_add-self
overflow_add-self c = omega (arith, c.requires.turns, ap (λ (w : WorkStation). w.turns) c.self.view_is)

-- ---- what it does where it fires

abbrev given : After-of → List Input
given c = inputs_of c.take_rings-date.new.inputs.items

given_count : (c : After-of) → length (given c) ≡ length (the_view c.self.inside).inputs
given_count c = c.take_rings-date.ensures.count ∙ c.look_rings.ensures.count

bare_given : (c : After-of) → map bare_input (given c) ≡ map bare_input (the_view c.self.inside).inputs
bare_given c =
    let s = the_view c.self.inside in
    c.take_rings-date.ensures.same
    ∙ bare_inputs-looked s (record s { inputs = inputs_of c.look_rings.new.inputs.items }) (record { rest = refl; count = c.look_rings.ensures.count; each = c.look_rings.ensures.looked })

taken : (c : After-of) (k : ℕ) → k < length (the_view c.self.inside).inputs → TookAtOnce (input_at (the_view c.self.inside).inputs k) (input_at (given c) k)
taken c k low =
    let s = the_view c.self.inside in
    let mid = inputs_of c.look_rings.new.inputs.items in
    let below : k < length mid = omega (arith, low, c.look_rings.ensures.count) in
    took-at_once (input_at s.inputs k) (input_at mid k) (input_at (given c) k)
    (c.look_rings.ensures.looked k low)
    (input-same mid (given c) k c.take_rings-date.ensures.same)
    (c.take_rings-date.ensures.given k below)

-- its inputs as they are with their hands full
abbrev full_at_once : After-of → List Input
full_at_once c = filled c.args.shelf.now.queues (the_view c.self.inside).inputs (given c)

direct_of : (c : After-of) → IsDirect (the_view c.self.inside).graph c.self.inside.number (the_view c.self.inside).inputs c.self.inside.fronts.items c.self.inside.fixed c.self.inside.bounded
direct_of c = c.self.invariant.readied.fires (c.self.invariant.readied.may c.if-not-self.false)

fronts_of : (c : After-of) (job : ℕ) → AreFronts (delays_into (the_view c.self.inside).graph c.self.inside.number) (extras_into (the_view c.self.inside).graph c.self.inside.number job) (the_view c.self.inside).inputs c.as_slice.result.now
fronts_of c job =
    let s = the_view c.self.inside in
    subst (AreFronts (delays_into s.graph s.number) (extras_into s.graph s.number job) s.inputs) (sym c.as_slice.ensures.value) ((direct_of c).fronts_are job)

-- all hands are empty, before it and after it
hands_of : (c : After-of) → AreEmptyHanded (the_view c.self.inside).inputs
hands_of c = c.self.invariant.readied.hands c.if-not-self.false

hands_given : (c : After-of) (k : ℕ) → k < length (the_view c.self.inside).inputs → (input_at (given c) k).hand ≡ None
hands_given c k low =
    let below : k < length (inputs_of c.look_rings.new.inputs.items) = omega (arith, low, c.look_rings.ensures.count) in
    (c.take_rings-date.ensures.given k below).hand ∙ (c.look_rings.ensures.looked k low).hand ∙ hands_of c k low

date_at_once : (c : After-of) → c.take_rings-date.result ≡ date_for (the_view c.self.inside).graph c.self.inside.number (length c.self.inside.log.value.dates + 1) (λ k. unwrap_or (input_at (full_at_once c) k).hand 0)
date_at_once c =
    let s = the_view c.self.inside in
    let full = full_at_once c in
    let shelf = c.args.shelf.now.queues in
    let mid = inputs_of c.look_rings.new.inputs.items in
    let token : ℕ → ℕ = λ k. unwrap_or (input_at full k).hand 0 in
    let fronts = c.as_slice.result.now in
    let job = length c.self.inside.log.value.dates + 1 in
    let extras = extras_into s.graph s.number job in
    let direct = direct_of c in
    let many : length full ≡ length s.inputs = filled-count shelf s.inputs (given c) ∙ given_count c in
    let fronts_most = greatest (front_asks shelf fronts) (range_with_len 0 (length fronts)) in
    let noted : extras_of c.look_rings.new.inputs.items ≡ extras =
    c.look_rings.ensures.extras ∙ c.self.invariant.noted.extras_are direct.fixed_is job in
    date_for-inside s.graph s.number job c.take_rings-date.result token direct.inside
    (c.take_rings-date.ensures.date
    ∙ ap (λ m. max m (greatest (ring_asks (extras_of c.look_rings.new.inputs.items) mid (given c)) (range_with_len 0 (length mid)))) c.in-Some.ensures.date
    ∙ ap (λ l. max fronts_most (greatest (ring_asks l mid (given c)) (range_with_len 0 (length mid)))) noted
    ∙ ap (λ n. max fronts_most (greatest (ring_asks extras mid (given c)) (range_with_len 0 n))) c.look_rings.ensures.count
    ∙ ap (max fronts_most)
    (greatest-agree (ring_asks extras mid (given c)) (ring_asks extras s.inputs (given c)) 0 (length s.inputs)
    (λ k from to. ring_asks-looked extras s.inputs mid (given c) (length s.inputs) c.look_rings.ensures.looked k (omega (arith, to))))
    ∙ latest-filled _ extras shelf s.inputs (given c) fronts (fronts_of c job) (given_count c)
    ∙ latest-is s.graph s.number job extras full (length full) (many ∙ c.self.invariant.station.an_input_each) refl)

firing_at_once : (c : After-of) → IsFiring c.args.shelf.now.queues c.take_fronts.new.self.queues c.put_all.new.shelf.queues (the_view c.self.inside) (full_at_once c) (given c) (outlets_of c.put_all.new.outlets.items) c.take_rings-date.result
firing_at_once c =
    let s = the_view c.self.inside in
    let old = c.args.shelf.now.queues in
    let mid = c.take_fronts.new.self.queues in
    let count = filled-count old s.inputs (given c) in
    record {
      full_count = count ∙ given_count c;
      empty_count = sym count;
      outlet_count = c.put_all.ensures.count;
      refilled = each-filled _ _ old s.inputs (given c) c.as_slice.result.now (fronts_of c 1) (given_count c) mid (hands_of c) (taken c) c.in-Some.ensures.there c.in-Some.ensures.each;
      are_full = λ k low. filled-full old s.inputs (given c) k (omega (arith, low, count));
      inlets = filled-inlet old s.inputs (given c);
      are_empty = λ k low. hands_given c k (omega (arith, low, count, given_count c));
      date_is = date_at_once c;
      outlets_same = c.put_all.ensures.same;
      got = λ k low.
          c.put_all.ensures.each k low
          ∙ ap (λ n. outlet_added mid (outlet_at s.outlets k) ++ saturating c.take_rings-date.result n ∷ [])
          (delay-noted s.graph s.number k (delays_of c.self.inside.outlets.items) (omega (arith, low, c.self.invariant.station.an_outlet_each)) c.self.invariant.noted.delays_are);
      only_takes = c.take_fronts.ensures.only_takes;
      only_puts = c.put_all.ensures.only_puts;
    }

fires_at_once : (c : After-of) → length (the_view c.self.inside).log.dates ≢ jobs (the_view c.self.inside).graph → IsStation (fired_station (the_view c.self.inside) (given c) (outlets_of c.put_all.new.outlets.items) c.take_rings-date.result (c.self.inside.turns + 1))
fires_at_once c left =
    let s = the_view c.self.inside in
    station-fires c.args.shelf.now.queues c.take_fronts.new.self.queues c.put_all.new.shelf.queues s (full_at_once c) (given c) (outlets_of c.put_all.new.outlets.items) c.take_rings-date.result (c.self.inside.turns + 1) c.self.invariant.station left (firing_at_once c)

-- its log before it and after it, as it stands on the shelf
log_before : (c : After-of) → log_on c.take_fronts.new.self.logs c.args.i ≡ c.self.inside.log.value
log_before c =
    ap (λ (l : List RoomyLog). log_on l c.args.i) c.take_fronts.ensures.logs ∙ c.requires.stands.log ∙ sym (ap (λ (w : WorkStation). w.log) c.self.view_is)

log_at_once : (c : After-of) → c.of.result.value ≡ with_date c.self.inside.log.value c.take_rings-date.result
log_at_once c =
    let i = c.args.i in
    let mid = c.take_fronts.new.self.logs in
    let low : i < length mid = omega (arith, c.requires.stands.there, ap length c.take_fronts.ensures.logs) in
    c.of.ensures
    ∙ c.log-2.ensures
    ∙ ap (λ (l : List RoomyLog). log_on l i) c.put_all.ensures.logs
    ∙ get_or-set_same mid i (with_date (log_on mid i) c.take_rings-date.result) (record { dates = []; room = 0 }) low
    ∙ ap (λ (l : RoomyLog). with_date l c.take_rings-date.result) (log_before c)

logs_at_once : (c : After-of) → c.put_all.new.shelf.logs ≡ set c.args.shelf.now.logs c.args.i c.of.result.value
logs_at_once c =
    let i = c.args.i in
    let date = c.take_rings-date.result in
    let mid = c.take_fronts.new.self.logs in
    c.put_all.ensures.logs
    ∙ ap (λ (l : RoomyLog). set mid i (with_date l date)) (log_before c)
    ∙ ap (set mid i) (sym (log_at_once c))
    ∙ ap (λ (l : List RoomyLog). set l i c.of.result.value) c.take_fronts.ensures.logs

-- the station after it, with its log as the call leaves it
abbrev at_once : (c : After-of) → RoomyLog → WorkStation
at_once c log = record (the_view c.self.inside) {
  inputs = given c;
  outlets = outlets_of c.put_all.new.outlets.items;
  log = log;
  turns = c.self.inside.turns + 1;
}

pub invariant_of-self-2 : goal.invariant_of-self-2
invariant_of-self-2 c =
    let from = (goal.at.invariant_of-self-2 c).After-of in
    let s = c.self.inside in record {
      station = subst (λ (log : RoomyLog). IsStation (at_once from log)) (sym (log_at_once from)) (fires_at_once from (some_left (goal.at.invariant_of-self-2 c).Else-done-jobs));
      noted = noted-same s.graph.value s.number s.inputs.items c.take_rings-date.new.inputs.items s.outlets.items c.put_all.new.outlets.items s.fixed s.worked.items s.bounded s.rings
          (λ _. c.take_rings-date.ensures.extras ∙ c.look_rings.ensures.extras)
          c.put_all.ensures.delays
          c.put_all.ensures.same
          c.self.invariant.noted;
      readied = readied-stays s.graph.value s.number (inputs_of s.inputs.items) (given from) s.fronts.items s.fixed s.bounded s.rings_in s.direct s.at_once (given_count from) (bare_given from)
          (λ k low. hands_given from k low ∙ sym (hands_of from k low))
          c.self.invariant.readied;
      waiting = waiting-at_once s.graph.value s.number (inputs_of s.inputs.items) (given from) s.log.value c.of.result.value s.at_once s.waits_for c.if-not-self.false c.self.invariant.waiting;
    }

-- all that it does where it fires
fires : (c : After-of) → length (the_view c.self.inside).log.dates ≢ jobs (the_view c.self.inside).graph → FiresAt c.args.i c.args.shelf.now c.put_all.new.shelf c.args.self.now (at_once c c.of.result.value)
fires c left =
    let s = the_view c.self.inside in
    let i = c.args.i in
    let outlets = outlets_of c.put_all.new.outlets.items in
    let log = c.of.result.value in
    let old = c.args.shelf.now in
    let mid = c.take_fronts.new.self.queues in
    let new = c.put_all.new.shelf in
    let no_log : RoomyLog = record { dates = []; room = 0 } in
    let stands : StandsAt i old s = subst (StandsAt i old) (sym c.self.view_is) c.requires.stands in
    let seated : IsSeated old.queues s = subst (IsSeated old.queues) (sym c.self.view_is) c.requires.seated in
    let count = c.put_all.ensures.only_puts.count ∙ c.take_fronts.ensures.only_takes.count in
    let kept : IsKept old.queues s → IsKept new.queues (at_once c (with_date c.self.inside.log.value c.take_rings-date.result)) =
    kept-fires old.queues mid new.queues s (full_at_once c) (given c) outlets c.take_rings-date.result (c.self.inside.turns + 1) c.self.invariant.station (firing_at_once c) in
    let own = own-fires s old.queues mid new.queues c.take_fronts.ensures.only_takes
    (λ q none. c.take_fronts.ensures.others q (fronts-none _ _ s.inputs c.as_slice.result.now (fronts_of c 1) q none))
    c.put_all.ensures.only_puts c.put_all.ensures.others in
    record {
      left = subst (λ (w : WorkStation). length w.log.dates ≢ jobs w.graph) c.self.view_is left;
      turns = ap (λ (w : WorkStation). w.turns + 1) c.self.view_is;
      same = bare-same s (given c) outlets log (s.turns + 1) (bare_given c) c.put_all.ensures.same (ap (λ (l : RoomyLog). l.room) (log_at_once c))
          ∙ ap bare_station c.self.view_is;
      station = subst (λ (l : RoomyLog). IsStation (at_once c l)) (sym (log_at_once c)) (fires_at_once c left);
      seated = seated-same old.queues new.queues s (at_once c log) count (given_count c) c.put_all.ensures.count (bare_given c) c.put_all.ensures.same seated;
      stands = stands-same i old new s (at_once c log)
          (ap length (logs_at_once c) ∙ length-set old.logs i log)
          (ap (λ (l : List RoomyLog). log_on l i) (logs_at_once c) ∙ get_or-set_same old.logs i log no_log stands.there)
          (c.put_all.ensures.sources ∙ c.take_fronts.ensures.sources)
          count refl refl (given_count c) (bare_given c) c.put_all.ensures.count c.put_all.ensures.same stands;
      did = subst (λ (w : WorkStation). FiredOnce w (at_once c log)) c.self.view_is
          (fired-once s (given c) outlets log c.take_rings-date.result (s.turns + 1) (log_at_once c) (hands_given c));
      kept = subst (λ (w : WorkStation). IsKept old.queues w → IsKept new.queues (at_once c log)) c.self.view_is
          (subst (λ (l : RoomyLog). IsKept old.queues s → IsKept new.queues (at_once c l)) (sym (log_at_once c)) kept);
      moves = moves-apart old.queues new.queues c.args.self.now
          (subst (λ (w : WorkStation). MovesItsOwn w old.queues new.queues) c.self.view_is own)
          (grows-fires old.queues mid new.queues c.take_fronts.ensures.only_takes c.put_all.ensures.grows);
      logs = logs_at_once c;
      sources = c.put_all.ensures.sources ∙ c.take_fronts.ensures.sources;
    }

pub returns-clause-fired : goal.returns-clause-fired
returns-clause-fired c fired =
    let from = goal.at.returns-clause-fired c in fires from.After-of (some_left from.Else-done-jobs)

use Rattle.std.proofs.Common.{subst, ◌∙◌, sym, ap, ◌≡◌, ◌≢◌, ◌+◌, ◌-◌, ◌<◌, ◌≤◌, ◌++◌, ◌∷◌, [], ℕ, List, arith, refl, length, map, set, slice_index, get_or-set_same}
use Rattle.std.proofs.lemmas.List.{length-set, set-get_or}
use Rattle.std.specs.Prelude.{false, Option, IfNone, unwrap_or}
use Rattle.line_base.specs.declared.event.Parts.{Parts}
use Rattle.line_base.specs.Roomy.{RoomyLog, with_date}
use Rattle.event_graph.specs.Network.{stations, jobs, delay, ins, outs}
use Rattle.card_queue.specs.Plain.{PlainQueue}
use Rattle.station_step.specs.Shelf.{log_on, queue_at, OnlyTakes}
use Rattle.station_step.specs.Input.{input_at, tokens_ahead, IsRefilled, NoneTakes, TakeApart, TakeWithin}
use Rattle.station_step.specs.Ends.{HasNoSpace, HasAsked, outlet_added}
use Rattle.station_step.specs.Station.{WorkStation, IsStation, IsSeated, StandsAt, MayPut, outlet_at, bare_input, bare_station}
use Rattle.station_step.specs.Kept.{IsKept, date_for, saturating}
use Rattle.station_step.specs.Step.{MovesItsOwn, MovesApart, IsReady, IsBlockedAt, IsFullAt, FiredOnce, OnlyRefilled, OnlyLooked}
use Rattle.station_step.specs.Noted.{inputs_of, extras_of, outlets_of, delays_of, extras_into, worked_into}
use Rattle.station_step.proofs.FrontsOf.{readied-waits, readied-emptied}
use Rattle.station_step.proofs.WaitingStations.{waiting-none, waiting-refilled}
use Rattle.station_step.specs.declared.input.Input.{Input}
use Rattle.station_step.proofs.Dates.{delay-noted, date_for-is, latest-is}
use Rattle.station_step.proofs.KeptStations.{kept-waits, kept-fires, IsFiring, fired_station, station-fires, seated-same, own-waits, own-fires, grows-waits, station-waits, grows-fires, moves-apart, moves-none, kept-alike, station-alike, bare-same, fired-once}
use Rattle.station_step.proofs.Posts.{come-same, stands-same}
use Rattle.station_step.proofs.OutletLooks.{AreAlike, alike-looked, NonePuts-alike, noted-same, rings-same, shelf_room-alike, shelf_room-after_takes, ring_room-less, space_clash, had_no_space}
use Rattle.station_step.specs.contracts.station.Station.{the_view}
use Rattle.station_step.proofs.station.Station.step_by_hands.Goals as goal
use Rattle.station_step.proofs.station.Station.step_by_hands.Goals.{After-dates, Then-done-jobs, Else-done-jobs, After-refill, After-look_all, After-of}

-- what the refilling of the hands did to the shelf
own_waiting : (s now : WorkStation) (noted : List Input) (old mid : List PlainQueue) → s ≡ now → noted ≡ s.inputs → OnlyTakes old mid → ((q : ℕ) → NoneTakes q noted → queue_at mid q ≡ queue_at old q) → MovesItsOwn now old mid
own_waiting s now noted old mid same noted_is only others =
    subst (λ (w : WorkStation). MovesItsOwn w old mid) same
    (own-waits s old mid only (subst (λ (l : List Input). (q : ℕ) → NoneTakes q l → queue_at mid q ≡ queue_at old q) noted_is others))

-- and to each hand
each_refilled : (noted before after : List Input) (old mid : List PlainQueue) → noted ≡ before → ((k : ℕ) → k < length noted → IsRefilled old mid (input_at noted k) (input_at after k)) → (k : ℕ) → k < length before → IsRefilled old mid (input_at before k) (input_at after k)
each_refilled noted before after old mid is each =
    subst (λ (l : List Input). (k : ℕ) → k < length l → IsRefilled old mid (input_at l k) (input_at after k)) is each

-- and to the shelf
moves : (c : After-refill) → MovesApart c.args.self.now c.args.shelf.now.queues c.refill.new.shelf.queues
moves c =
    let old = c.args.shelf.now.queues in
    let mid = c.refill.new.shelf.queues in
    let only = c.refill.ensures.only_takes in
    moves-apart old mid c.args.self.now
    (own_waiting (the_view c.self.inside) c.args.self.now (inputs_of c.note_job.new.inputs.items) old mid c.self.view_is c.note_job.ensures.inputs only c.refill.ensures.others)
    (grows-waits old mid only)

-- the dates of its log, as they stand on the shelf
dates_are : (c : After-refill) → c.dates.result.now ≡ c.self.inside.log.value.dates
dates_are c =
    c.dates.ensures
    ∙ ap (λ (l : RoomyLog). l.dates) (c.log.ensures ∙ c.requires.stands.log ∙ sym (ap (λ (w : WorkStation). w.log) c.self.view_is))

-- the station stands where it stood
stands_before : (c : After-refill) → StandsAt c.args.i c.args.shelf.now (the_view c.self.inside)
stands_before c = subst (StandsAt c.args.i c.args.shelf.now) (sym c.self.view_is) c.requires.stands

-- ---- what the call finds

graph_is : (c : After-dates) → c.graph-graph.result.now ≡ (the_view c.self.inside).graph
graph_is c = c.graph-graph.ensures.graph ∙ c.requires.made_for ∙ sym (ap (λ (w : WorkStation). w.graph) c.self.view_is)

seated_before : (c : After-dates) → IsSeated c.args.shelf.now.queues (the_view c.self.inside)
seated_before c = subst (IsSeated c.args.shelf.now.queues) (sym c.self.view_is) c.requires.seated

exists_there : (c : After-dates) → c.self.inside.number < stations c.graph-graph.result.now
exists_there c =
    subst (λ (g : Parts). c.self.inside.number < stations g) (sym (graph_is c)) c.self.invariant.station.exists

-- the log has a date for each job, or has not
all_made : (c : Then-done-jobs) → length c.args.self.now.log.dates ≡ jobs c.args.self.now.graph
all_made c =
    sym (ap length (c.dates.ensures ∙ ap (λ (l : RoomyLog). l.dates) (c.log.ensures ∙ c.requires.stands.log)))
    ∙ c.if-done-jobs.true
    ∙ c.jobs.ensures.count
    ∙ ap jobs (c.graph-graph.ensures.graph ∙ c.requires.made_for)

not_all_made : (c : Else-done-jobs) → length c.args.self.now.log.dates ≢ jobs c.args.self.now.graph
not_all_made c all =
    c.if-done-jobs.false
    (ap length (c.dates.ensures ∙ ap (λ (l : RoomyLog). l.dates) (c.log.ensures ∙ c.requires.stands.log))
    ∙ all
    ∙ sym (ap jobs (c.graph-graph.ensures.graph ∙ c.requires.made_for))
    ∙ sym c.jobs.ensures.count)

dates_left : (c : Else-done-jobs) → length (the_view c.self.inside).log.dates < jobs (the_view c.self.inside).graph
dates_left c =
    let left = subst (λ (w : WorkStation). length w.log.dates ≢ jobs w.graph) (sym c.self.view_is) (not_all_made c) in
    omega (arith, left, c.self.invariant.station.few_dates)

job_within : (c : Else-done-jobs) → length c.dates.result.now + 1 ≤ jobs c.graph-graph.result.now
job_within c =
    let s = the_view c.self.inside in
    let dates : c.dates.result.now ≡ s.log.dates =
    c.dates.ensures
    ∙ ap (λ (l : RoomyLog). l.dates) (c.log.ensures ∙ c.requires.stands.log ∙ sym (ap (λ (w : WorkStation). w.log) c.self.view_is)) in
    let graph : c.graph-graph.result.now ≡ s.graph =
    c.graph-graph.ensures.graph ∙ c.requires.made_for ∙ sym (ap (λ (w : WorkStation). w.graph) c.self.view_is) in
    omega (arith, dates_left c, ap length dates, ap jobs graph)

pub overflow_add-self : goal.overflow_add-self
overflow_add-self c = omega (arith, c.requires.turns, ap (λ (w : WorkStation). w.turns) c.self.view_is)

pub overflow_add-job : goal.overflow_add-job
overflow_add-job c = omega (arith, job_within c, c.jobs.ensures.limits.few_jobs)

pub log-requires : goal.log-requires
log-requires c = c.requires.stands.there

-- ---- the station is done

pub invariant_of-self : goal.invariant_of-self
invariant_of-self c =
    let s = the_view c.self.inside in record {
      station = station-waits s s.inputs (s.turns + 1) refl c.self.invariant.station;
      noted = c.self.invariant.noted;
      readied = c.self.invariant.readied;
      waiting = c.self.invariant.waiting;
    }

pub returns-then-done-jobs-clause-turns : goal.returns-then-done-jobs-clause-turns
returns-then-done-jobs-clause-turns c = ap (λ (w : WorkStation). w.turns + 1) c.self.view_is

pub returns-then-done-jobs-clause-same : goal.returns-then-done-jobs-clause-same
returns-then-done-jobs-clause-same c = ap bare_station c.self.view_is

pub returns-then-done-jobs-clause-station : goal.returns-then-done-jobs-clause-station
returns-then-done-jobs-clause-station c =
    let s = the_view c.self.inside in station-waits s s.inputs (s.turns + 1) refl c.self.invariant.station

pub returns-then-done-jobs-clause-seated : goal.returns-then-done-jobs-clause-seated
returns-then-done-jobs-clause-seated c =
    let s = the_view c.self.inside in
    let old = c.args.shelf.now.queues in
    seated-same old old s (record s { turns = s.turns + 1 }) refl refl refl refl refl
    (seated_before (goal.at.returns-then-done-jobs-clause-seated c).After-dates)

pub returns-then-done-jobs-clause-stands : goal.returns-then-done-jobs-clause-stands
returns-then-done-jobs-clause-stands c =
    let s = the_view c.self.inside in
    let shelf = c.args.shelf.now in
    let stands : StandsAt c.args.i shelf s = subst (StandsAt c.args.i shelf) (sym c.self.view_is) c.requires.stands in
    stands-same c.args.i shelf shelf s (record s { turns = s.turns + 1 }) refl stands.log refl refl refl refl refl refl refl refl stands

pub returns-then-done-jobs-clause-done : goal.returns-then-done-jobs-clause-done
returns-then-done-jobs-clause-done c = (λ _. all_made c, λ _. tt)

pub returns-then-done-jobs-clause-blocked : goal.returns-then-done-jobs-clause-blocked
returns-then-done-jobs-clause-blocked c = tt

pub returns-then-done-jobs-clause-full : goal.returns-then-done-jobs-clause-full
returns-then-done-jobs-clause-full c = tt

pub returns-then-done-jobs-clause-fires : goal.returns-then-done-jobs-clause-fires
returns-then-done-jobs-clause-fires c ready = omega (arith, ready.more, all_made c)

pub returns-then-done-jobs-clause-did : goal.returns-then-done-jobs-clause-did
returns-then-done-jobs-clause-did c = record {
  shelf = refl;
  station = ap (λ (w : WorkStation). record w { turns = w.turns + 1 }) c.self.view_is;
}

pub returns-then-done-jobs-clause-sources : goal.returns-then-done-jobs-clause-sources
returns-then-done-jobs-clause-sources c = refl

pub returns-then-done-jobs-clause-kept : goal.returns-then-done-jobs-clause-kept
returns-then-done-jobs-clause-kept c was =
    let kept : IsKept c.args.shelf.now.queues (the_view c.self.inside) = subst (IsKept c.args.shelf.now.queues) (sym c.self.view_is) was in
    record { held = kept.held; dates = kept.dates; added = kept.added; room = kept.room }

pub returns-then-done-jobs-clause-moves : goal.returns-then-done-jobs-clause-moves
returns-then-done-jobs-clause-moves c = moves-none c.args.shelf.now.queues c.args.self.now

-- ---- its hands are refilled

pub note_job-requires-clause-station : goal.note_job-requires-clause-station
note_job-requires-clause-station c = exists_there (goal.at.note_job-requires-clause-station c).After-dates

pub note_job-requires-clause-from_one : goal.note_job-requires-clause-from_one
note_job-requires-clause-from_one c = omega arith

pub note_job-requires-clause-job : goal.note_job-requires-clause-job
note_job-requires-clause-job c = job_within (goal.at.note_job-requires-clause-job c).Else-done-jobs

pub note_job-requires-clause-an_input_each : goal.note_job-requires-clause-an_input_each
note_job-requires-clause-an_input_each c =
    c.self.invariant.station.an_input_each
    ∙ ap (λ (g : Parts). length (ins g c.self.inside.number)) (sym (graph_is (goal.at.note_job-requires-clause-an_input_each c).After-dates))

pub note_job-requires-clause-worked : goal.note_job-requires-clause-worked
note_job-requires-clause-worked c =
    c.as_slice-worked.ensures.value
    ∙ c.self.invariant.noted.worked_is
    ∙ ap (λ (g : Parts). worked_into g c.self.inside.number) (sym (graph_is (goal.at.note_job-requires-clause-worked c).After-dates))

pub note_job-requires-clause-noted : goal.note_job-requires-clause-noted
note_job-requires-clause-noted c is n =
    c.self.invariant.noted.extras_are is n
    ∙ ap (λ (g : Parts). extras_into g c.self.inside.number n) (sym (graph_is (goal.at.note_job-requires-clause-noted c).After-dates))

pub refill-requires-clause-within : goal.refill-requires-clause-within
refill-requires-clause-within c =
    subst (TakeWithin (length c.args.shelf.now.queues)) (sym c.note_job.ensures.inputs) (seated_before (goal.at.refill-requires-clause-within c).After-dates).takes_within

pub refill-requires-clause-apart : goal.refill-requires-clause-apart
refill-requires-clause-apart c =
    subst TakeApart (sym c.note_job.ensures.inputs) (seated_before (goal.at.refill-requires-clause-apart c).After-dates).takes_apart

-- as many inputs as before
as_many : (c : After-refill) → length (inputs_of c.refill.new.inputs.items) ≡ length (the_view c.self.inside).inputs
as_many c = c.refill.ensures.count ∙ ap length c.note_job.ensures.inputs

-- their queues are the same, and so is what is noted of them
bare_inputs : (c : After-refill) → map bare_input (inputs_of c.refill.new.inputs.items) ≡ map bare_input (the_view c.self.inside).inputs
bare_inputs c = c.refill.ensures.same ∙ ap (map bare_input) c.note_job.ensures.inputs

hands_filled : (c : After-refill) → (k : ℕ) → k < length (the_view c.self.inside).inputs → IsRefilled c.args.shelf.now.queues c.refill.new.shelf.queues (input_at (the_view c.self.inside).inputs k) (input_at (inputs_of c.refill.new.inputs.items) k)
hands_filled c =
    each_refilled (inputs_of c.note_job.new.inputs.items) (the_view c.self.inside).inputs (inputs_of c.refill.new.inputs.items) c.args.shelf.now.queues c.refill.new.shelf.queues c.note_job.ensures.inputs c.refill.ensures.each

-- ---- an input has no token

pub ins-requires : goal.ins-requires
ins-requires c = exists_there (goal.at.ins-requires c).After-dates

pub bounds-ins-first : goal.bounds-ins-first
bounds-ins-first c =
    let from = goal.at.bounds-ins-first c in
    let arcs = c.ins.ensures.arcs ∙ ap (λ (g : Parts). ins g c.self.inside.number) (graph_is from.After-dates) in
    omega (arith, c.in-Empty.ensures.there, as_many from.After-refill, c.self.invariant.station.an_input_each, ap length arcs)

pub invariant_of-self-in-Empty : goal.invariant_of-self-in-Empty
invariant_of-self-in-Empty c =
    let s = c.self.inside in
    let from = (goal.at.invariant_of-self-in-Empty c).After-refill in
    let full = inputs_of c.refill.new.inputs.items in record {
      station = station-waits (the_view s) full (s.turns + 1) (as_many from) c.self.invariant.station;
      noted = noted-same s.graph.value s.number s.inputs.items c.refill.new.inputs.items s.outlets.items s.outlets.items s.fixed s.worked.items s.bounded s.rings
          (λ is. c.refill.ensures.extras ∙ c.note_job.ensures.stays is)
          refl
          refl
          c.self.invariant.noted;
      readied = readied-waits s.graph.value s.number (inputs_of s.inputs.items) full s.fronts.items s.fixed s.bounded s.rings_in s.direct s.at_once (as_many from) (bare_inputs from) c.self.invariant.readied;
      waiting = waiting-refilled s.graph.value s.number full s.log.value c.in-Empty.first c.in-Empty.last (slice_index c.ins.result.now c.in-Empty.first) c.only_empty-self-inside.result
          c.only_empty-self-inside.ensures c.in-Empty.ensures.there
          (ap (λ (l : List ℕ). slice_index l c.in-Empty.first) (sym (c.ins.ensures.arcs ∙ ap (λ (g : Parts). ins g s.number) (graph_is (goal.at.invariant_of-self-in-Empty c).After-dates))))
          c.in-Empty.ensures.empty c.in-Empty.ensures.first c.in-Empty.ensures.last
          (dates_left (goal.at.invariant_of-self-in-Empty c).Else-done-jobs);
    }

pub returns-in-Empty-clause-turns : goal.returns-in-Empty-clause-turns
returns-in-Empty-clause-turns c = ap (λ (w : WorkStation). w.turns + 1) c.self.view_is

pub returns-in-Empty-clause-same : goal.returns-in-Empty-clause-same
returns-in-Empty-clause-same c =
    let s = the_view c.self.inside in
    let from = (goal.at.returns-in-Empty-clause-same c).After-refill in
    bare-same s (inputs_of c.refill.new.inputs.items) s.outlets s.log (s.turns + 1) (bare_inputs from) refl refl
    ∙ ap bare_station c.self.view_is

pub returns-in-Empty-clause-station : goal.returns-in-Empty-clause-station
returns-in-Empty-clause-station c =
    let s = the_view c.self.inside in
    let from = (goal.at.returns-in-Empty-clause-station c).After-refill in
    station-waits s (inputs_of c.refill.new.inputs.items) (s.turns + 1) (as_many from) c.self.invariant.station

pub returns-in-Empty-clause-done : goal.returns-in-Empty-clause-done
returns-in-Empty-clause-done c =
    (λ never. absurd never, not_all_made (goal.at.returns-in-Empty-clause-done c).Else-done-jobs)

pub returns-in-Empty-clause-blocked : goal.returns-in-Empty-clause-blocked
returns-in-Empty-clause-blocked c =
    let s = the_view c.self.inside in
    let old = c.args.shelf.now.queues in
    let full = inputs_of c.refill.new.inputs.items in
    let after : WorkStation = record s { inputs = full; turns = s.turns + 1 } in
    let from = goal.at.returns-in-Empty-clause-blocked c in
    let k = c.in-Empty.first in
    let arc = slice_index c.ins.result.now k in
    let below : k < length s.inputs = omega (arith, c.in-Empty.ensures.there, as_many from.After-refill) in
    let filled = hands_filled from.After-refill k below in
    let is : IsBlockedAt old s after arc k = record {
      there = below;
      arc_is = ap (λ (l : List ℕ). slice_index l k) (sym (c.ins.ensures.arcs ∙ ap (λ (g : Parts). ins g s.number) (graph_is from.After-dates)));
      none = subst (λ (hand : Option ℕ). IfNone hand (tokens_ahead old (input_at s.inputs k) ≡ 0)) c.in-Empty.ensures.empty filled.empty;
      looked = subst (λ (hand : Option ℕ). IfNone hand (HasAsked (input_at s.inputs k).inlet (input_at full k).inlet)) c.in-Empty.ensures.empty filled.asked;
      empty = c.in-Empty.ensures.empty;
      first = c.in-Empty.ensures.first;
    } in (k, subst (λ (w : WorkStation). IsBlockedAt old w after arc k) c.self.view_is is)

pub returns-in-Empty-clause-full : goal.returns-in-Empty-clause-full
returns-in-Empty-clause-full c = tt

pub returns-in-Empty-clause-fires : goal.returns-in-Empty-clause-fires
returns-in-Empty-clause-fires c ready =
    let blocked = returns-in-Empty-clause-blocked c in
    omega (arith, ready.tokens blocked.0 blocked.1.there, blocked.1.none)

pub returns-in-Empty-clause-did : goal.returns-in-Empty-clause-did
returns-in-Empty-clause-did c =
    let s = the_view c.self.inside in
    let old = c.args.shelf.now.queues in
    let mid = c.refill.new.shelf.queues in
    let after : WorkStation = record s { inputs = inputs_of c.refill.new.inputs.items; turns = s.turns + 1 } in
    let from = (goal.at.returns-in-Empty-clause-did c).After-refill in
    let did : OnlyRefilled old mid s after =
    record { log = refl; outlets = refl; puts = c.refill.ensures.only_takes; hands = hands_filled from } in
    subst (λ (w : WorkStation). OnlyRefilled old mid w after) c.self.view_is did

pub returns-in-Empty-clause-sources : goal.returns-in-Empty-clause-sources
returns-in-Empty-clause-sources c = c.refill.ensures.sources

pub returns-in-Empty-clause-kept : goal.returns-in-Empty-clause-kept
returns-in-Empty-clause-kept c =
    let new = c.refill.new.shelf.queues in
    let full = inputs_of c.refill.new.inputs.items in
    subst (λ (s : WorkStation). IsKept c.args.shelf.now.queues s → IsKept new (record (the_view c.self.inside) { inputs = full; turns = c.self.inside.turns + 1 })) c.self.view_is
    (kept-waits c.args.shelf.now.queues new (the_view c.self.inside) full (c.self.inside.turns + 1) c.self.invariant.station.an_input_each (c.refill.ensures.count ∙ ap length c.note_job.ensures.inputs) (each_refilled (inputs_of c.note_job.new.inputs.items) (the_view c.self.inside).inputs full c.args.shelf.now.queues c.refill.new.shelf.queues c.note_job.ensures.inputs c.refill.ensures.each) c.refill.ensures.only_takes)

pub returns-in-Empty-clause-moves : goal.returns-in-Empty-clause-moves
returns-in-Empty-clause-moves c = moves (goal.at.returns-in-Empty-clause-moves c).After-refill

pub returns-in-Empty-clause-seated : goal.returns-in-Empty-clause-seated
returns-in-Empty-clause-seated c =
    let old = c.args.shelf.now.queues in
    let s = the_view c.self.inside in
    let full = inputs_of c.refill.new.inputs.items in
    let was : IsSeated old s = subst (IsSeated old) (sym c.self.view_is) c.requires.seated in
    seated-same old c.refill.new.shelf.queues s (record s { inputs = full; turns = c.self.inside.turns + 1 })
    c.refill.ensures.only_takes.count
    (c.refill.ensures.count ∙ ap length c.note_job.ensures.inputs)
    refl
    (c.refill.ensures.same ∙ ap (map bare_input) c.note_job.ensures.inputs)
    refl
    was

pub returns-in-Empty-clause-stands : goal.returns-in-Empty-clause-stands
returns-in-Empty-clause-stands c =
    let i = c.args.i in
    let s = the_view c.self.inside in
    let from = (goal.at.returns-in-Empty-clause-stands c).After-refill in
    let stands = stands_before from in
    let full = inputs_of c.refill.new.inputs.items in
    stands-same i c.args.shelf.now c.refill.new.shelf s (record s { inputs = full; turns = c.self.inside.turns + 1 })
    (ap length c.refill.ensures.logs)
    (ap (λ (l : List RoomyLog). log_on l i) c.refill.ensures.logs ∙ stands.log)
    c.refill.ensures.sources c.refill.ensures.only_takes.count refl refl (as_many from) (bare_inputs from) refl refl stands

-- the log stays where nothing is put
logs_stay : (c : After-refill) → c.refill.new.shelf.logs ≡ set c.args.shelf.now.logs c.args.i c.self.inside.log.value
logs_stay c =
    let no_log : RoomyLog = record { dates = []; room = 0 } in
    c.refill.ensures.logs
    ∙ sym (set-get_or c.args.shelf.now.logs c.args.i no_log)
    ∙ ap (set c.args.shelf.now.logs c.args.i) (stands_before c).log

pub returns-in-Empty-clause-logs : goal.returns-in-Empty-clause-logs
returns-in-Empty-clause-logs c = logs_stay (goal.at.returns-in-Empty-clause-logs c).After-refill

pub returns-in-Some-clause-logs : goal.returns-in-Some-clause-logs
returns-in-Some-clause-logs c = logs_stay (goal.at.returns-in-Some-clause-logs c).After-refill

pub returns-then-done-jobs-clause-logs : goal.returns-then-done-jobs-clause-logs
returns-then-done-jobs-clause-logs c =
    let no_log : RoomyLog = record { dates = []; room = 0 } in
    sym (set-get_or c.args.shelf.now.logs c.args.i no_log)
    ∙ ap (set c.args.shelf.now.logs c.args.i) (c.requires.stands.log ∙ sym (ap (λ (w : WorkStation). w.log) c.self.view_is))

-- ---- an output has no space

pub look_all-requires : goal.look_all-requires
look_all-requires c = record { noted = c.self.invariant.noted.bounded_is }

pub outs-requires : goal.outs-requires
outs-requires c = exists_there (goal.at.outs-requires c).After-dates

pub bounds-outs-k : goal.bounds-outs-k
bounds-outs-k c =
    let arcs = c.outs.ensures.arcs ∙ ap (λ (g : Parts). outs g c.self.inside.number) (graph_is (goal.at.bounds-outs-k c).After-dates) in
    omega (arith, c.in-Some.ensures.there, c.look_all.ensures.count, c.self.invariant.station.an_outlet_each, ap length arcs)

-- the station when its outlets have looked
looks_well : (c : After-look_all) → IsStation (record (the_view c.self.inside) { outlets = outlets_of c.look_all.new.outlets.items })
looks_well c =
    let s = the_view c.self.inside in
    let looked = outlets_of c.look_all.new.outlets.items in
    station-alike s looked (alike-looked s.outlets looked c.look_all.ensures.count c.look_all.ensures.looked) c.self.invariant.station

pub returns-in-Some-clause-turns : goal.returns-in-Some-clause-turns
returns-in-Some-clause-turns c = ap (λ (w : WorkStation). w.turns + 1) c.self.view_is

pub returns-in-Some-clause-same : goal.returns-in-Some-clause-same
returns-in-Some-clause-same c =
    let s = the_view c.self.inside in
    let from = (goal.at.returns-in-Some-clause-same c).After-refill in
    bare-same s (inputs_of c.refill.new.inputs.items) (outlets_of c.look_all.new.outlets.items) s.log (s.turns + 1) (bare_inputs from) c.look_all.ensures.same refl
    ∙ ap bare_station c.self.view_is

pub returns-in-Some-clause-station : goal.returns-in-Some-clause-station
returns-in-Some-clause-station c =
    let s = the_view c.self.inside in
    let from = goal.at.returns-in-Some-clause-station c in
    station-waits (record s { outlets = outlets_of c.look_all.new.outlets.items }) (inputs_of c.refill.new.inputs.items) (s.turns + 1) (as_many from.After-refill) (looks_well from.After-look_all)

pub returns-in-Some-clause-done : goal.returns-in-Some-clause-done
returns-in-Some-clause-done c =
    (λ never. absurd never, not_all_made (goal.at.returns-in-Some-clause-done c).Else-done-jobs)

pub returns-in-Some-clause-blocked : goal.returns-in-Some-clause-blocked
returns-in-Some-clause-blocked c = tt

pub returns-in-Some-clause-full : goal.returns-in-Some-clause-full
returns-in-Some-clause-full c =
    let s = the_view c.self.inside in
    let looked = outlets_of c.look_all.new.outlets.items in
    let after : WorkStation = record s { inputs = inputs_of c.refill.new.inputs.items; outlets = looked; turns = s.turns + 1 } in
    let k = c.in-Some.k in
    let arc = slice_index c.outs.result.now k in
    let from = (goal.at.returns-in-Some-clause-full c).After-dates in
    let below : k < length s.outlets = omega (arith, c.in-Some.ensures.there, c.look_all.ensures.count) in
    let look = c.look_all.ensures.looked k below in
    let none : HasNoSpace (outlet_at looked k) = c.in-Some.ensures.full in
    let is : IsFullAt s after arc k = record {
      there = below;
      arc_is = ap (λ (l : List ℕ). slice_index l k) (sym (c.outs.ensures.arcs ∙ ap (λ (g : Parts). outs g s.number) (graph_is from)));
      looked = look.looks (had_no_space (outlet_at s.outlets k) (outlet_at looked k) look none);
      none = none;
      first = c.in-Some.ensures.first;
    } in (k, subst (λ (w : WorkStation). IsFullAt w after arc k) c.self.view_is is)

pub returns-in-Some-clause-fires : goal.returns-in-Some-clause-fires
returns-in-Some-clause-fires c is_ready =
    let s = the_view c.self.inside in
    let looked = outlets_of c.look_all.new.outlets.items in
    let k = c.in-Some.k in
    let below : k < length s.outlets = omega (arith, c.in-Some.ensures.there, c.look_all.ensures.count) in
    let ready : IsReady c.args.shelf.now.queues s = subst (IsReady c.args.shelf.now.queues) (sym c.self.view_is) is_ready in
    space_clash (outlet_at s.outlets k) (ready.space k below)
    (had_no_space (outlet_at s.outlets k) (outlet_at looked k) (c.look_all.ensures.looked k below) c.in-Some.ensures.full)

pub returns-in-Some-clause-did : goal.returns-in-Some-clause-did
returns-in-Some-clause-did c =
    let s = the_view c.self.inside in
    let old = c.args.shelf.now.queues in
    let mid = c.refill.new.shelf.queues in
    let full = inputs_of c.refill.new.inputs.items in
    let after : WorkStation = record s { inputs = full; outlets = outlets_of c.look_all.new.outlets.items; turns = s.turns + 1 } in
    let from = (goal.at.returns-in-Some-clause-did c).After-refill in
    let did : OnlyLooked old mid s after = record {
      refilled = record { log = refl; outlets = refl; puts = c.refill.ensures.only_takes; hands = hands_filled from };
      full = λ k low. c.in-Full.ensures.full k (omega (arith, low, as_many from));
      count = c.look_all.ensures.count;
      looked = c.look_all.ensures.looked;
    } in
    subst (λ (w : WorkStation). OnlyLooked old mid w after) c.self.view_is did

pub returns-in-Some-clause-sources : goal.returns-in-Some-clause-sources
returns-in-Some-clause-sources c = c.refill.ensures.sources

pub returns-in-Some-clause-seated : goal.returns-in-Some-clause-seated
returns-in-Some-clause-seated c =
    let old = c.args.shelf.now.queues in
    let s = the_view c.self.inside in
    let full = inputs_of c.refill.new.inputs.items in
    let looked = outlets_of c.look_all.new.outlets.items in
    let was : IsSeated old s = subst (IsSeated old) (sym c.self.view_is) c.requires.seated in
    seated-same old c.refill.new.shelf.queues s (record s { inputs = full; outlets = looked; turns = c.self.inside.turns + 1 })
    c.refill.ensures.only_takes.count
    (c.refill.ensures.count ∙ ap length c.note_job.ensures.inputs)
    c.look_all.ensures.count
    (c.refill.ensures.same ∙ ap (map bare_input) c.note_job.ensures.inputs)
    c.look_all.ensures.same
    was

pub returns-in-Some-clause-stands : goal.returns-in-Some-clause-stands
returns-in-Some-clause-stands c =
    let i = c.args.i in
    let s = the_view c.self.inside in
    let from = (goal.at.returns-in-Some-clause-stands c).After-refill in
    let stands = stands_before from in
    let full = inputs_of c.refill.new.inputs.items in
    let looked = outlets_of c.look_all.new.outlets.items in
    stands-same i c.args.shelf.now c.refill.new.shelf s (record s { inputs = full; outlets = looked; turns = c.self.inside.turns + 1 })
    (ap length c.refill.ensures.logs)
    (ap (λ (l : List RoomyLog). log_on l i) c.refill.ensures.logs ∙ stands.log)
    c.refill.ensures.sources c.refill.ensures.only_takes.count refl refl (as_many from) (bare_inputs from) c.look_all.ensures.count c.look_all.ensures.same stands

pub returns-in-Some-clause-kept : goal.returns-in-Some-clause-kept
returns-in-Some-clause-kept c =
    let old = c.args.shelf.now.queues in
    let mid = c.refill.new.shelf.queues in
    let s = the_view c.self.inside in
    let full = inputs_of c.refill.new.inputs.items in
    let looked = outlets_of c.look_all.new.outlets.items in
    let turns = c.self.inside.turns + 1 in
    let kept : IsKept old s → IsKept mid (record s { inputs = full; outlets = looked; turns = turns }) =
    λ was.
    kept-alike mid (record s { inputs = full; turns = turns }) looked (alike-looked s.outlets looked c.look_all.ensures.count c.look_all.ensures.looked)
    (kept-waits old mid s full turns c.self.invariant.station.an_input_each (c.refill.ensures.count ∙ ap length c.note_job.ensures.inputs) (each_refilled (inputs_of c.note_job.new.inputs.items) (the_view c.self.inside).inputs full c.args.shelf.now.queues c.refill.new.shelf.queues c.note_job.ensures.inputs c.refill.ensures.each) c.refill.ensures.only_takes was) in
    subst (λ (w : WorkStation). IsKept old w → IsKept mid (record s { inputs = full; outlets = looked; turns = turns })) c.self.view_is kept

pub returns-in-Some-clause-moves : goal.returns-in-Some-clause-moves
returns-in-Some-clause-moves c = moves (goal.at.returns-in-Some-clause-moves c).After-refill

pub invariant_of-self-in-Some : goal.invariant_of-self-in-Some
invariant_of-self-in-Some c =
    let s = c.self.inside in
    let was = the_view s in
    let full = inputs_of c.refill.new.inputs.items in
    let looked = outlets_of c.look_all.new.outlets.items in
    let count = c.refill.ensures.count ∙ ap length c.note_job.ensures.inputs in
    record {
      station = station-waits (record was { outlets = looked }) full (s.turns + 1) count
          (station-alike was looked (alike-looked was.outlets looked c.look_all.ensures.count c.look_all.ensures.looked) c.self.invariant.station);
      noted = noted-same s.graph.value s.number s.inputs.items c.refill.new.inputs.items s.outlets.items c.look_all.new.outlets.items s.fixed s.worked.items s.bounded s.rings
          (λ is. c.refill.ensures.extras ∙ c.note_job.ensures.stays is)
          c.look_all.ensures.delays
          c.look_all.ensures.same
          c.self.invariant.noted;
      readied = readied-waits s.graph.value s.number (inputs_of s.inputs.items) full s.fronts.items s.fixed s.bounded s.rings_in s.direct s.at_once count
          (c.refill.ensures.same ∙ ap (map bare_input) c.note_job.ensures.inputs)
          c.self.invariant.readied;
      waiting = waiting-none s.graph.value s.number full s.log.value false;
    }

-- ---- the station fires by its hands

pub empty_hands-requires : goal.empty_hands-requires
empty_hands-requires c = tt

pub next_date-date-requires-clause-from_one : goal.next_date-date-requires-clause-from_one
next_date-date-requires-clause-from_one c = omega arith

pub next_date-date-requires-clause-job : goal.next_date-date-requires-clause-job
next_date-date-requires-clause-job c = job_within (goal.at.next_date-date-requires-clause-job c).Else-done-jobs

pub put_all-requires-clause-ring_room : goal.put_all-requires-clause-ring_room
put_all-requires-clause-ring_room c k low =
    let s = the_view c.self.inside in
    let left = dates_left (goal.at.put_all-requires-clause-ring_room c).Else-done-jobs in
    let looks = looks_well (goal.at.put_all-requires-clause-ring_room c).After-look_all in
    ring_room-less (jobs s.graph - length s.log.dates) 1 (outlet_at (outlets_of c.look_all.new.outlets.items) k) (omega (arith, left)) (looks.ring_room k low)

pub put_all-requires-clause-space : goal.put_all-requires-clause-space
put_all-requires-clause-space c k low = c.in_default.ensures.none k low

pub put_all-requires-clause-within : goal.put_all-requires-clause-within
put_all-requires-clause-within c =
    let s = the_view c.self.inside in
    (seated-same c.args.shelf.now.queues c.refill.new.shelf.queues s (record s { outlets = outlets_of c.look_all.new.outlets.items })
    c.refill.ensures.only_takes.count refl c.look_all.ensures.count refl c.look_all.ensures.same
    (seated_before (goal.at.put_all-requires-clause-within c).After-dates)).puts_within

pub log-requires-2 : goal.log-requires-2
log-requires-2 c =
    let mid = c.refill.new.shelf.logs in
    let logs = length-set mid c.args.i (with_date (log_on mid c.args.i) c.next_date-date.result) in
    omega (arith, c.requires.stands.there, ap length c.refill.ensures.logs, ap length c.put_all.ensures.logs, logs)

pub put_all-requires-clause-noted : goal.put_all-requires-clause-noted
put_all-requires-clause-noted c =
    c.self.invariant.noted.rings_are ∙ rings-same (the_view c.self.inside).outlets (outlets_of c.look_all.new.outlets.items) c.look_all.ensures.same

pub put_all-requires-clause-there : goal.put_all-requires-clause-there
put_all-requires-clause-there c = omega (arith, c.requires.stands.there, ap length c.refill.ensures.logs)

pub put_all-requires-clause-come : goal.put_all-requires-clause-come
put_all-requires-clause-come c =
    let s = the_view c.self.inside in
    let stands = stands_before (goal.at.put_all-requires-clause-come c).After-refill in
    come-same c.args.i (map (delay s.graph) (outs s.graph s.number)) (delays_of c.look_all.new.outlets.items) c.args.shelf.now c.refill.new.shelf s.outlets (outlets_of c.look_all.new.outlets.items)
    (c.look_all.ensures.delays ∙ c.self.invariant.noted.delays_are)
    c.refill.ensures.sources c.refill.ensures.only_takes.count c.look_all.ensures.count c.look_all.ensures.same stands.come

pub put_all-requires-clause-log_room : goal.put_all-requires-clause-log_room
put_all-requires-clause-log_room c =
    let s = the_view c.self.inside in
    let from = (goal.at.put_all-requires-clause-log_room c).After-refill in
    let graph : c.graph-graph.result.now ≡ s.graph =
    c.graph-graph.ensures.graph ∙ c.requires.made_for ∙ sym (ap (λ (w : WorkStation). w.graph) c.self.view_is) in
    let left : length s.log.dates ≢ jobs s.graph =
    λ all. c.if-done-jobs.false (ap length (dates_are from) ∙ all ∙ sym (ap jobs graph) ∙ sym c.jobs.ensures.count) in
    let was : log_on c.refill.new.shelf.logs c.args.i ≡ s.log =
    ap (λ (l : List RoomyLog). log_on l c.args.i) c.refill.ensures.logs ∙ c.requires.stands.log ∙ sym (ap (λ (w : WorkStation). w.log) c.self.view_is) in
    subst (λ (l : RoomyLog). length l.dates < l.room) (sym was) (omega (arith, left, c.self.invariant.station.few_dates, c.self.invariant.station.log_room))

pub put_all-requires-clause-shelf_room : goal.put_all-requires-clause-shelf_room
put_all-requires-clause-shelf_room c k low =
    let old = c.args.shelf.now.queues in
    let mid = c.refill.new.shelf.queues in
    let s = the_view c.self.inside in
    let looked = outlets_of c.look_all.new.outlets.items in
    let below : k < length s.outlets = omega (arith, low, c.look_all.ensures.count) in
    let graph : c.graph-graph.result.now ≡ s.graph =
    c.graph-graph.ensures.graph ∙ c.requires.made_for ∙ sym (ap (λ (w : WorkStation). w.graph) c.self.view_is) in
    let left : length s.log.dates ≢ jobs s.graph =
    λ all. c.if-done-jobs.false (ap length (dates_are (goal.at.put_all-requires-clause-shelf_room c).After-refill) ∙ all ∙ sym (ap jobs graph) ∙ sym c.jobs.ensures.count) in
    let more : length s.log.dates < jobs s.graph = omega (arith, left, c.self.invariant.station.few_dates) in
    let may : MayPut old s = subst (MayPut old) (sym c.self.view_is) c.requires.may_put in
    shelf_room-alike mid (outlet_at s.outlets k) (outlet_at looked k) (c.look_all.ensures.looked k below).same
    (shelf_room-after_takes old mid (outlet_at s.outlets k) c.refill.ensures.only_takes (may more k below))

-- the dates of its log, as they stood on the shelf
dates_now : (c : After-of) → c.dates.result.now ≡ c.self.inside.log.value.dates
dates_now c =
    c.dates.ensures
    ∙ ap (λ (l : RoomyLog). l.dates) (c.log.ensures ∙ c.requires.stands.log ∙ sym (ap (λ (w : WorkStation). w.log) c.self.view_is))

-- the station when its outlets have looked
abbrev looked_station : (c : After-of) → WorkStation
looked_station c = record (the_view c.self.inside) { outlets = outlets_of c.look_all.new.outlets.items }

looked_alike : (c : After-of) → AreAlike (the_view c.self.inside).outlets (outlets_of c.look_all.new.outlets.items)
looked_alike c = alike-looked (the_view c.self.inside).outlets (outlets_of c.look_all.new.outlets.items) c.look_all.ensures.count c.look_all.ensures.looked

looks_soundly : (c : After-of) → IsStation (looked_station c)
looks_soundly c = station-alike (the_view c.self.inside) (outlets_of c.look_all.new.outlets.items) (looked_alike c) c.self.invariant.station

-- the delay of the arc of output k, as the station noted it
delay_is : (c : After-of) (k : ℕ) → k < length (the_view c.self.inside).outlets → slice_index (delays_of c.look_all.new.outlets.items) k ≡ delay (the_view c.self.inside).graph (slice_index (outs (the_view c.self.inside).graph (the_view c.self.inside).number) k)
delay_is c k low =
    let s = the_view c.self.inside in
    delay-noted s.graph s.number k (delays_of c.look_all.new.outlets.items) (omega (arith, low, c.self.invariant.station.an_outlet_each)) (c.look_all.ensures.delays ∙ c.self.invariant.noted.delays_are)

-- as many inputs as before
full_count : (c : After-of) → length (inputs_of c.refill.new.inputs.items) ≡ length (the_view c.self.inside).inputs
full_count c = c.refill.ensures.count ∙ ap length c.note_job.ensures.inputs

-- the date of the job is what its tokens ask for
date_is : (c : After-of) → c.next_date-date.result ≡ date_for (the_view c.self.inside).graph c.self.inside.number (length c.self.inside.log.value.dates + 1) (λ k. unwrap_or (input_at (inputs_of c.refill.new.inputs.items) k).hand 0)
date_is c =
    let s = the_view c.self.inside in
    let full = inputs_of c.refill.new.inputs.items in
    let token : ℕ → ℕ = λ k. unwrap_or (input_at full k).hand 0 in
    let g = c.graph-graph.result.now in
    let graph : g ≡ s.graph =
    c.graph-graph.ensures.graph ∙ c.requires.made_for ∙ sym (ap (λ (w : WorkStation). w.graph) c.self.view_is) in
    let each : length full ≡ length (ins g s.number) =
    full_count c ∙ c.self.invariant.station.an_input_each ∙ ap (λ (h : Parts). length (ins h s.number)) (sym graph) in
    let latest =
    c.in-Full.ensures.date
    ∙ latest-is g s.number (length c.dates.result.now + 1) (extras_of c.refill.new.inputs.items) full (length full) each (c.refill.ensures.extras ∙ c.note_job.ensures.extras) in
    c.next_date-date.ensures
    ∙ date_for-is g s.number (length c.dates.result.now + 1) c.in-Full.latest token latest
    ∙ ap (λ (h : Parts). date_for h s.number (length c.dates.result.now + 1) token) graph
    ∙ ap (λ (l : List ℕ). date_for s.graph s.number (length l + 1) token) (dates_now c)

-- the firing, as the lemmas have it
firing : (c : After-of) → IsFiring c.args.shelf.now.queues c.refill.new.shelf.queues c.put_all.new.shelf.queues (looked_station c) (inputs_of c.refill.new.inputs.items) (inputs_of c.empty_hands.new.inputs.items) (outlets_of c.put_all.new.outlets.items) c.next_date-date.result
firing c =
    let s = the_view c.self.inside in
    let full = inputs_of c.refill.new.inputs.items in
    let date = c.next_date-date.result in
    record {
      full_count = full_count c;
      empty_count = c.empty_hands.ensures.count;
      outlet_count = c.put_all.ensures.count;
      refilled = each_refilled (inputs_of c.note_job.new.inputs.items) s.inputs full c.args.shelf.now.queues c.refill.new.shelf.queues c.note_job.ensures.inputs c.refill.ensures.each;
      are_full = c.in-Full.ensures.full;
      inlets = c.empty_hands.ensures.inlets;
      are_empty = c.empty_hands.ensures.hands;
      date_is = date_is c;
      outlets_same = c.put_all.ensures.same;
      got = λ k low.
          c.put_all.ensures.each k low
          ∙ ap (λ n. outlet_added c.refill.new.shelf.queues (outlet_at (outlets_of c.look_all.new.outlets.items) k) ++ saturating date n ∷ []) (delay_is c k (omega (arith, low, c.look_all.ensures.count)));
      only_takes = c.refill.ensures.only_takes;
      only_puts = c.put_all.ensures.only_puts;
    }

-- dates were left to be made
some_left : (c : After-of) → length (the_view c.self.inside).log.dates ≢ jobs (the_view c.self.inside).graph
some_left c all =
    let graph : c.graph-graph.result.now ≡ (the_view c.self.inside).graph =
    c.graph-graph.ensures.graph ∙ c.requires.made_for ∙ sym (ap (λ (w : WorkStation). w.graph) c.self.view_is) in
    c.if-done-jobs.false (ap length (dates_now c) ∙ all ∙ sym (ap jobs graph) ∙ sym c.jobs.ensures.count)

-- the station after it
fires_soundly : (c : After-of) → IsStation (fired_station (the_view c.self.inside) (inputs_of c.empty_hands.new.inputs.items) (outlets_of c.put_all.new.outlets.items) c.next_date-date.result (c.self.inside.turns + 1))
fires_soundly c =
    station-fires c.args.shelf.now.queues c.refill.new.shelf.queues c.put_all.new.shelf.queues (looked_station c) (inputs_of c.refill.new.inputs.items) (inputs_of c.empty_hands.new.inputs.items) (outlets_of c.put_all.new.outlets.items) c.next_date-date.result (c.self.inside.turns + 1) (looks_soundly c) (some_left c) (firing c)

-- its log after it
log_is : (c : After-of) → c.of.result.value ≡ with_date c.self.inside.log.value c.next_date-date.result
log_is c =
    let i = c.args.i in
    let was : log_on c.refill.new.shelf.logs i ≡ c.self.inside.log.value =
    ap (λ (l : List RoomyLog). log_on l i) c.refill.ensures.logs ∙ c.requires.stands.log ∙ sym (ap (λ (w : WorkStation). w.log) c.self.view_is) in
    let low : i < length c.refill.new.shelf.logs = omega (arith, c.requires.stands.there, ap length c.refill.ensures.logs) in
    c.of.ensures
    ∙ c.log-2.ensures
    ∙ ap (λ (l : List RoomyLog). log_on l i) c.put_all.ensures.logs
    ∙ get_or-set_same c.refill.new.shelf.logs i (with_date (log_on c.refill.new.shelf.logs i) c.next_date-date.result) (record { dates = []; room = 0 }) low
    ∙ ap (λ (l : RoomyLog). with_date l c.next_date-date.result) was

-- with its log as the call leaves it
abbrev with_log : (c : After-of) → RoomyLog → WorkStation
with_log c log = record (the_view c.self.inside) {
  inputs = inputs_of c.empty_hands.new.inputs.items;
  outlets = outlets_of c.put_all.new.outlets.items;
  log = log;
  turns = c.self.inside.turns + 1;
}

pub invariant_of-self-2 : goal.invariant_of-self-2
invariant_of-self-2 c =
    let from = (goal.at.invariant_of-self-2 c).After-of in
    let s = c.self.inside in record {
      station = subst (λ (log : RoomyLog). IsStation (with_log from log)) (sym (log_is from)) (fires_soundly from);
      noted = noted-same s.graph.value s.number s.inputs.items c.empty_hands.new.inputs.items s.outlets.items c.put_all.new.outlets.items s.fixed s.worked.items s.bounded s.rings
          (λ is. c.empty_hands.ensures.extras ∙ c.refill.ensures.extras ∙ c.note_job.ensures.stays is)
          (c.put_all.ensures.delays ∙ c.look_all.ensures.delays)
          (c.put_all.ensures.same ∙ c.look_all.ensures.same)
          c.self.invariant.noted;
      readied = readied-emptied s.graph.value s.number (inputs_of s.inputs.items) (inputs_of c.empty_hands.new.inputs.items) s.fronts.items s.fixed s.bounded s.rings_in s.direct s.at_once
          (c.empty_hands.ensures.count ∙ full_count from)
          (c.empty_hands.ensures.same ∙ c.refill.ensures.same ∙ ap (map bare_input) c.note_job.ensures.inputs)
          (λ k low. c.empty_hands.ensures.hands k (omega (arith, low, c.empty_hands.ensures.count)))
          c.self.invariant.readied;
      waiting = waiting-none s.graph.value s.number (inputs_of c.empty_hands.new.inputs.items) c.of.result.value s.direct;
    }

pub returns-clause-turns : goal.returns-clause-turns
returns-clause-turns c = ap (λ (w : WorkStation). w.turns + 1) c.self.view_is

pub returns-clause-same : goal.returns-clause-same
returns-clause-same c =
    let s = the_view c.self.inside in
    let from = goal.at.returns-clause-same c in
    bare-same s (inputs_of c.empty_hands.new.inputs.items) (outlets_of c.put_all.new.outlets.items) c.of.result.value (s.turns + 1)
    (c.empty_hands.ensures.same ∙ bare_inputs from.After-refill)
    (c.put_all.ensures.same ∙ c.look_all.ensures.same)
    (ap (λ (l : RoomyLog). l.room) (log_is from.After-of))
    ∙ ap bare_station c.self.view_is

pub returns-clause-done : goal.returns-clause-done
returns-clause-done c =
    (λ never. absurd never, not_all_made (goal.at.returns-clause-done c).Else-done-jobs)

pub returns-clause-blocked : goal.returns-clause-blocked
returns-clause-blocked c = tt

pub returns-clause-full : goal.returns-clause-full
returns-clause-full c = tt

pub returns-clause-fires : goal.returns-clause-fires
returns-clause-fires c ready = tt

pub returns-clause-did : goal.returns-clause-did
returns-clause-did c =
    let s = the_view c.self.inside in
    let log = c.of.result.value in
    let from = goal.at.returns-clause-did c in
    let count = as_many from.After-refill in
    subst (λ (w : WorkStation). FiredOnce w (with_log from.After-of log)) c.self.view_is
    (fired-once s (inputs_of c.empty_hands.new.inputs.items) (outlets_of c.put_all.new.outlets.items) log c.next_date-date.result (s.turns + 1) (log_is from.After-of)
    (λ k low. c.empty_hands.ensures.hands k (omega (arith, low, count))))

pub returns-clause-sources : goal.returns-clause-sources
returns-clause-sources c = c.put_all.ensures.sources ∙ c.refill.ensures.sources

pub returns-clause-station : goal.returns-clause-station
returns-clause-station c =
    let from = (goal.at.returns-clause-station c).After-of in
    subst (λ (log : RoomyLog). IsStation (with_log from log)) (sym (log_is from)) (fires_soundly from)

pub returns-clause-seated : goal.returns-clause-seated
returns-clause-seated c =
    let from = (goal.at.returns-clause-seated c).After-of in
    let old = c.args.shelf.now.queues in
    let new = c.put_all.new.shelf.queues in
    let was : IsSeated old (the_view c.self.inside) = subst (IsSeated old) (sym c.self.view_is) c.requires.seated in
    seated-same old new (the_view c.self.inside) (with_log from c.of.result.value)
    (c.put_all.ensures.only_puts.count ∙ c.refill.ensures.only_takes.count)
    (c.empty_hands.ensures.count ∙ full_count from)
    (c.put_all.ensures.count ∙ c.look_all.ensures.count)
    (c.empty_hands.ensures.same ∙ c.refill.ensures.same ∙ ap (map bare_input) c.note_job.ensures.inputs)
    (c.put_all.ensures.same ∙ c.look_all.ensures.same)
    was

-- the logs after it: its own is another
logs_are : (c : After-of) → c.put_all.new.shelf.logs ≡ set c.args.shelf.now.logs c.args.i c.of.result.value
logs_are c =
    let i = c.args.i in
    let date = c.next_date-date.result in
    let was : log_on c.refill.new.shelf.logs i ≡ c.self.inside.log.value =
    ap (λ (l : List RoomyLog). log_on l i) c.refill.ensures.logs ∙ c.requires.stands.log ∙ sym (ap (λ (w : WorkStation). w.log) c.self.view_is) in
    c.put_all.ensures.logs
    ∙ ap (λ (l : RoomyLog). set c.refill.new.shelf.logs i (with_date l date)) was
    ∙ ap (set c.refill.new.shelf.logs i) (sym (log_is c))
    ∙ ap (λ (l : List RoomyLog). set l i c.of.result.value) c.refill.ensures.logs

pub returns-clause-logs : goal.returns-clause-logs
returns-clause-logs c =
    let from = (goal.at.returns-clause-logs c).After-of in
    logs_are from

pub returns-clause-stands : goal.returns-clause-stands
returns-clause-stands c =
    let from = (goal.at.returns-clause-stands c).After-of in
    let i = c.args.i in
    let s = the_view c.self.inside in
    let old = c.args.shelf.now in
    let new = c.put_all.new.shelf in
    let stands : StandsAt i old s = subst (StandsAt i old) (sym c.self.view_is) c.requires.stands in
    let no_log : RoomyLog = record { dates = []; room = 0 } in
    stands-same i old new s (with_log from c.of.result.value)
    (ap length (logs_are from) ∙ length-set old.logs i c.of.result.value)
    (ap (λ (l : List RoomyLog). log_on l i) (logs_are from) ∙ get_or-set_same old.logs i c.of.result.value no_log stands.there)
    (c.put_all.ensures.sources ∙ c.refill.ensures.sources)
    (c.put_all.ensures.only_puts.count ∙ c.refill.ensures.only_takes.count)
    refl refl
    (c.empty_hands.ensures.count ∙ full_count from)
    (c.empty_hands.ensures.same ∙ c.refill.ensures.same ∙ ap (map bare_input) c.note_job.ensures.inputs)
    (c.put_all.ensures.count ∙ c.look_all.ensures.count)
    (c.put_all.ensures.same ∙ c.look_all.ensures.same)
    stands

pub returns-clause-kept : goal.returns-clause-kept
returns-clause-kept c =
    let from = (goal.at.returns-clause-kept c).After-of in
    let old = c.args.shelf.now.queues in
    let new = c.put_all.new.shelf.queues in
    let kept : IsKept old (the_view c.self.inside) → IsKept new (with_log from (with_date c.self.inside.log.value c.next_date-date.result)) =
    λ was.
    kept-fires old c.refill.new.shelf.queues new (looked_station from) (inputs_of c.refill.new.inputs.items) (inputs_of c.empty_hands.new.inputs.items) (outlets_of c.put_all.new.outlets.items) c.next_date-date.result (c.self.inside.turns + 1) (looks_soundly from) (firing from)
    (kept-alike old (the_view c.self.inside) (outlets_of c.look_all.new.outlets.items) (looked_alike from) was) in
    subst (λ (s : WorkStation). IsKept old s → IsKept new (with_log from c.of.result.value)) c.self.view_is
    (subst (λ (log : RoomyLog). IsKept old (the_view c.self.inside) → IsKept new (with_log from log)) (sym (log_is from)) kept)

pub returns-clause-moves : goal.returns-clause-moves
returns-clause-moves c =
    let from = (goal.at.returns-clause-moves c).After-of in
    let s = the_view c.self.inside in
    let old = c.args.shelf.now.queues in
    let mid = c.refill.new.shelf.queues in
    let new = c.put_all.new.shelf.queues in
    let outlets = outlets_of c.look_all.new.outlets.items in
    let taken = subst (λ (l : List Input). (q : ℕ) → NoneTakes q l → queue_at mid q ≡ queue_at old q) c.note_job.ensures.inputs c.refill.ensures.others in
    let own = own-fires s old mid new c.refill.ensures.only_takes taken c.put_all.ensures.only_puts (λ q none. c.put_all.ensures.others q (NonePuts-alike q s.outlets outlets (looked_alike from) none)) in
    moves-apart old new c.args.self.now
    (subst (λ (w : WorkStation). MovesItsOwn w old new) c.self.view_is own)
    (grows-fires old mid new c.refill.ensures.only_takes c.put_all.ensures.grows)

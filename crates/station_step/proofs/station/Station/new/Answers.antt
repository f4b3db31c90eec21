use Rattle.std.proofs.Common.{◌≡◌, ◌<◌, arith, refl, zero, suc, [], ◌∷◌, subst, sym, ap, ◌∙◌, length, List, map, ℕ}
use Rattle.std.specs.Prelude.{None, Bool, true, false, IsTrue, not}
use Rattle.std.specs.List.{list_any}
use Rattle.std.proofs.lemmas.List.{length-map}
use Rattle.std.proofs.lemmas.Result.{err_from_is_err_and}
use Rattle.line_base.specs.declared.event.Parts.{Parts}
use Rattle.line_base.specs.Roomy.{RoomyLog}
use Rattle.card_queue.specs.Plain.{PlainQueue}
use Rattle.event_graph.specs.Network.{stations, arc, ins, outs}
use Rattle.event_graph.proofs.ArcNumbers.{All-ins}
use Rattle.station_step.specs.declared.ends.Outlet.{Outlet}
use Rattle.station_step.specs.declared.input.Input.{Input}
use Rattle.station_step.specs.Ends.{is_bounded, is_ring}
use Rattle.station_step.specs.Input.{empty_handed, input_at}
use Rattle.station_step.specs.Fronts.{AreFronts, IsReadied}
use Rattle.station_step.specs.RingInputs.{is_ring_input}
use Rattle.station_step.specs.declared.ends.Inlet.{Inlet}
use Rattle.station_step.specs.Station.{WorkStation, IsStation, new_station}
use Rattle.station_step.specs.Kept.{IsKept, IsFresh}
use Rattle.station_step.specs.Noted.{IsNoted, inputs_of, outlets_of, unnoted_input, delays_into}
use Rattle.station_step.proofs.Dates.{time-fixed}
use Rattle.station_step.proofs.KeptStations.{kept-fresh, station-new}
use Rattle.station_step.proofs.NotedExtras.{inputs-unnoted, extras-into}
use Rattle.station_step.proofs.station.Station.new.Goals as goal
use Rattle.station_step.proofs.station.Station.new.Goals.{After-graph-graph, After-of-2}

-- ---- what the calls that make its parts need

exists_there : (c : After-graph-graph) → c.args.t < stations c.graph-graph.result.now
exists_there c = subst (λ (g : Parts). c.args.t < stations g) (sym c.graph-graph.ensures.graph) c.requires.exists

pub worked_into-requires : goal.worked_into-requires
worked_into-requires c = exists_there (goal.at.worked_into-requires c).After-graph-graph

pub time-requires-clause-station : goal.time-requires-clause-station
time-requires-clause-station c = exists_there (goal.at.time-requires-clause-station c).After-graph-graph

pub time-requires-clause-from_one : goal.time-requires-clause-from_one
time-requires-clause-from_one c = omega arith

pub note_time-requires : goal.note_time-requires
note_time-requires c =
    let g = c.graph-graph.result.now in
    let t = c.args.t in
    ap length (c.as_slice-2.ensures.value ∙ c.in_ok-worked.ensures)
    ∙ length-map (ins g t) (λ a. (arc g a).worked)
    ∙ ap (λ (h : Parts). length (ins h t)) c.graph-graph.ensures.graph
    ∙ sym c.requires.an_inlet_each
    ∙ sym (length-map c.args.inlets.items unnoted_input)
    ∙ sym (ap length c.in_ok-inputs.ensures)

pub varies-fixed-requires : goal.varies-fixed-requires
varies-fixed-requires c = exists_there (goal.at.varies-fixed-requires c).After-graph-graph

pub with_delays-requires-clause-exists : goal.with_delays-requires-clause-exists
with_delays-requires-clause-exists c = exists_there (goal.at.with_delays-requires-clause-exists c).After-graph-graph

pub with_delays-requires-clause-an_outlet_each : goal.with_delays-requires-clause-an_outlet_each
with_delays-requires-clause-an_outlet_each c =
    c.requires.an_outlet_each ∙ ap (λ (g : Parts). length (outs g c.args.t)) (sym c.graph-graph.ensures.graph)

-- ---- where memory runs out

pub returns-in_err-worked : goal.returns-in_err-worked
returns-in_err-worked c = rw (err_from_is_err_and c.from_residual.result c.from_residual.ensures.1).1 (record { made = tt; station = tt; kept = tt })

pub returns-in_err-inputs : goal.returns-in_err-inputs
returns-in_err-inputs c = rw (err_from_is_err_and c.from_residual-in_err-inputs.result c.from_residual-in_err-inputs.ensures.1).1 (record { made = tt; station = tt; kept = tt })

pub returns-in_err-fronts : goal.returns-in_err-fronts
returns-in_err-fronts c = rw (err_from_is_err_and c.from_residual-in_err-fronts.result c.from_residual-in_err-fronts.ensures.1).1 (record { made = tt; station = tt; kept = tt })

pub returns-in_err-outlets : goal.returns-in_err-outlets
returns-in_err-outlets c = rw (err_from_is_err_and c.from_residual-in_err-outlets.result c.from_residual-in_err-outlets.ensures.1).1 (record { made = tt; station = tt; kept = tt })

-- ---- the station that is made, as contracts see it

abbrev made : After-of-2 → WorkStation
made c = record {
  graph = c.of-2.result.value;
  number = c.args.t;
  inputs = inputs_of c.note_time.new.inputs.items;
  outlets = outlets_of c.in_ok-outlets.outlets.items;
  log = c.of.result.value;
  made = length c.dates.result.now;
  turns = 0;
}

abbrev wanted : After-of-2 → WorkStation
wanted c = new_station c.args.live.now.graph c.args.t c.args.inlets.items c.args.outlets.items c.args.log.now

made_is : (c : After-of-2) → made c ≡ wanted c
made_is c =
    let station : Parts → List Input → List Outlet → ℕ → WorkStation =
    λ g inputs outlets n. record { graph = g; number = c.args.t; inputs = inputs; outlets = outlets; log = c.args.log.now; made = n; turns = 0 } in
    let logged : RoomyLog → WorkStation = λ l. record (made c) { log = l } in
    let g = c.args.live.now.graph in
    let inputs = inputs_of c.note_time.new.inputs.items in
    let outlets = outlets_of c.in_ok-outlets.outlets.items in
    let n = length c.dates.result.now in
    ap logged c.of.ensures
    ∙ ap (λ (h : Parts). station h inputs outlets n) (c.of-2.ensures ∙ c.graph-graph.ensures.graph)
    ∙ ap (λ (l : List Input). station g l outlets n) (c.note_time.ensures.inputs ∙ ap inputs_of c.in_ok-inputs.ensures ∙ inputs-unnoted c.args.inlets.items)
    ∙ ap (λ (l : List Outlet). station g (map empty_handed c.args.inlets.items) l n) c.in_ok-outlets.ensures.outlets
    ∙ ap (station g (map empty_handed c.args.inlets.items) c.args.outlets.items) (ap length c.dates.ensures)

not_both : (b : Bool) → IsTrue b → IsTrue (not b) → ⊥
not_both true is is_not = absurd (cc)
not_both false is is_not = absurd (cc)

-- a new input has an empty hand
hands-new : (inlets : List Inlet) (k : ℕ) → (input_at (map empty_handed inlets) k).hand ≡ None
hands-new [] k = refl
hands-new (i ∷ inlets) zero = refl
hands-new (i ∷ inlets) (suc k) = hands-new inlets k

-- it is a station
is_station : (c : After-of-2) → IsStation (made c)
is_station c =
    subst IsStation (sym (made_is c))
    (station-new c.args.live.now.graph c.args.t c.args.inlets.items c.args.outlets.items c.args.log.now c.requires.exists c.requires.an_inlet_each c.requires.an_outlet_each c.requires.few_dates c.requires.log_room c.requires.ring_room)

pub invariant_of-result : goal.invariant_of-result
invariant_of-result c =
    let g = c.graph-graph.result.now in
    let t = c.args.t in
    let inputs = c.note_time.new.inputs.items in
    let outlets = c.in_ok-outlets.outlets.items in
    let noted : IsNoted g t inputs outlets (not c.varies-fixed.result) c.in_ok-worked.worked.items c.kinds_of-bounded.result.0 c.kinds_of-bounded.result.1 =
    record {
      extras_are = λ is job.
          c.note_time.ensures.extras
          ∙ extras-into g t job c.time.result c.as_slice-2.result.now
          (c.as_slice-2.ensures.value ∙ c.in_ok-worked.ensures)
          (c.time.ensures.time ∙ time-fixed g t 1 job (λ varies. not_both c.varies-fixed.result (c.varies-fixed.ensures.varies.1 varies) is))
          (All-ins g t);
      worked_is = c.in_ok-worked.ensures;
      delays_are = c.in_ok-outlets.ensures.delays;
      bounded_is = c.kinds_of-bounded.ensures.bounded
          ∙ ap (list_any is_bounded) (c.as_slice.ensures.value ∙ sym c.in_ok-outlets.ensures.outlets);
      rings_are = c.kinds_of-bounded.ensures.rings
          ∙ ap (list_any is_ring) (c.as_slice.ensures.value ∙ sym c.in_ok-outlets.ensures.outlets);
    } in
    let d = c.is_direct-direct.result in
    let fixed = not c.varies-fixed.result in
    let readied : IsReadied g t (inputs_of inputs) c.in_ok-fronts.fronts.items (not c.varies-fixed.result) c.kinds_of-bounded.result.0 c.has_rings-rings_in.result d d =
    record {
      fires = λ is.
          let all = c.is_direct-direct.ensures.0 is in
          record {
            fronts_are = λ job.
                subst (λ l. AreFronts (delays_into g t) l (inputs_of inputs) c.in_ok-fronts.fronts.items)
                (noted.extras_are all.1.0 job) c.in_ok-fronts.ensures;
            fixed_is = all.1.0;
            unbounded = all.1.1;
            inside = all.0;
          };
      may = λ is. is;
      hands = λ _ k low.
          ap (λ (l : List Input). (input_at l k).hand) (c.note_time.ensures.inputs ∙ ap inputs_of c.in_ok-inputs.ensures ∙ inputs-unnoted c.args.inlets.items)
          ∙ hands-new c.args.inlets.items k;
      rings_are = c.has_rings-rings_in.ensures ∙ ap (λ l. list_any is_ring_input (inputs_of l)) c.as_slice-3.ensures.value;
    } in record {
      readied = subst (λ (h : Parts). IsReadied h t (inputs_of inputs) c.in_ok-fronts.fronts.items (not c.varies-fixed.result) c.kinds_of-bounded.result.0 c.has_rings-rings_in.result d d) (sym c.of-2.ensures) readied;
      station = is_station c;
      waiting = record { hand = tt; left = tt; by_hands = tt };
      noted = subst (λ (h : Parts). IsNoted h t inputs outlets (not c.varies-fixed.result) c.in_ok-worked.worked.items c.kinds_of-bounded.result.0 c.kinds_of-bounded.result.1) (sym c.of-2.ensures) noted;
    }

pub returns : goal.returns
returns c = record {
  made = made_is c;
  station = is_station c;
  kept = subst (λ (s : WorkStation). (shelf : List PlainQueue) → IsFresh shelf s → IsKept shelf s) (sym (made_is c))
      (kept-fresh c.args.live.now.graph c.args.t c.args.inlets.items c.args.outlets.items c.args.log.now c.requires.untaken c.requires.unfilled c.requires.ring_room);
}

use Rattle.std.proofs.Common.{subst, sym, ◌∙◌, ap, ◌≡◌, ◌<◌, List, length, set, map, get_or, arith, refl}
use Rattle.std.specs.Prelude.{None}
use Rattle.std.proofs.lemmas.List.{length-set}
use Rattle.station_step.specs.declared.ends.Inlet.{Inlet}
use Rattle.station_step.specs.declared.ends.Outlet.{Outlet}
use Rattle.station_step.specs.declared.input.Input.{Input}
use Rattle.station_step.specs.declared.noted.NotedInput.{NotedInput}
use Rattle.station_step.specs.declared.noted.NotedOutlet.{NotedOutlet}
use Rattle.station_step.specs.Ends.{bare_inlet, unseen_inlet, unseen_outlet, bare_outlet, HasMoreSpace, KnowsMore, AreMet}
use Rattle.station_step.specs.Input.{input_at}
use Rattle.station_step.specs.Station.{WorkStation, IsStation, bare_station, outlet_at, with_inlet, with_outlet}
use Rattle.station_step.specs.Kept.{IsKept}
use Rattle.station_step.specs.Noted.{inputs_of, outlets_of}
use Rattle.station_step.specs.contracts.station.Station.{the_view}
use Rattle.station_step.proofs.KeptStations.{bare-met, kept-met, met_station, station-met, kept-alike, station-alike, alike-set}
use Rattle.station_step.proofs.OutletLooks.{at-set, bare-set, noted-same}
use Rattle.station_step.proofs.NotedExtras.{no_input, no_outlet, input-lent, outlet-lent, input-at, outlet-at, inputs-count, outlets-count, inputs-set, outlets-set, extras-stay, delays-stay}
use Rattle.station_step.proofs.RefilledHands.{input_at-set}
use Rattle.station_step.proofs.FrontsOf.{hands-met, readied-met}
use Rattle.station_step.proofs.WaitingStations.{waiting-stays}
use Rattle.station_step.proofs.OwnQueues.{bare-unseen}
use Rattle.station_step.proofs.station.meet_at.Goals as goal

-- ---- the input that is lent

abbrev inputs : goal.After-to-1 → List Input
inputs c = inputs_of c.to.inside.inputs.items

-- input j as the meeting leaves it
abbrev met_input : goal.After-to-1 → Input
met_input c = record { inlet = c.meet_ends.new.inlet; hand = c.index_mut-2.result.now.input.hand }

abbrev met_inputs : goal.After-to-1 → List NotedInput
met_inputs c = set c.to.inside.inputs.items c.args.j (record { input = met_input c; extra = c.index_mut-2.result.now.extra })

there : (c : goal.After-to-1) → c.args.j < length (inputs c)
there c = omega (arith, c.requires.input, ap (λ (s : WorkStation). length s.inputs) c.to.view_is)

lent : (c : goal.After-to-1) → c.index_mut-2.result.now ≡ get_or c.to.inside.inputs.items c.args.j no_input
lent c =
    input-lent c.to.inside.inputs.items c.args.j c.index_mut-2.result.now
    (omega (arith, there c, inputs-count c.to.inside.inputs.items)) c.index_mut-2.ensures.value

at : (c : goal.After-to-1) → c.index_mut-2.result.now.input ≡ input_at (inputs c) c.args.j
at c = ap (λ (n : NotedInput). n.input) (lent c) ∙ sym (input-at c.to.inside.inputs.items c.args.j)

same_but_known : (c : goal.After-to-1) → unseen_inlet c.meet_ends.new.inlet ≡ unseen_inlet (input_at (inputs c) c.args.j).inlet
same_but_known c = c.meet_ends.ensures.inlet ∙ ap (λ (i : Input). unseen_inlet i.inlet) (at c)

met_inputs_are : (c : goal.After-to-1) → inputs_of (met_inputs c) ≡ set (inputs c) c.args.j (met_input c)
met_inputs_are c = inputs-set c.to.inside.inputs.items c.args.j _

-- the station of the input after it
abbrev after_to : goal.After-to-1 → WorkStation
after_to c = record (the_view c.to.inside) { inputs = inputs_of (met_inputs c) }

to_at : (c : goal.After-to-1) → input_at (inputs_of (met_inputs c)) c.args.j ≡ met_input c
to_at c = ap (λ (l : List Input). input_at l c.args.j) (met_inputs_are c) ∙ input_at-set (inputs c) c.args.j (met_input c) (there c)

inlet_was : (c : goal.After-to-1) → c.index_mut-2.result.now.input.inlet ≡ (input_at c.args.to.now.inputs c.args.j).inlet
inlet_was c = ap (λ (i : Input). i.inlet) (at c) ∙ ap (λ (s : WorkStation). (input_at s.inputs c.args.j).inlet) c.to.view_is

to_is : (c : goal.After-to-1) → after_to c ≡ met_station (the_view c.to.inside) c.args.j c.meet_ends.new.inlet c.index_mut-2.result.now.input.hand
to_is c = ap (λ (l : List Input). record (the_view c.to.inside) { inputs = l }) (met_inputs_are c)

-- ---- the outlet that is lent

abbrev outlets : goal.After-to-1 → List Outlet
outlets c = outlets_of c.from.inside.outlets.items

abbrev met_outlets : goal.After-to-1 → List NotedOutlet
met_outlets c = set c.from.inside.outlets.items c.args.k (record { outlet = c.meet_ends.new.outlet; delay = c.index_mut.result.now.delay })

output_there : (c : goal.After-to-1) → c.args.k < length (outlets c)
output_there c = omega (arith, c.requires.output, ap (λ (s : WorkStation). length s.outlets) c.from.view_is)

outlet_lent : (c : goal.After-to-1) → c.index_mut.result.now ≡ get_or c.from.inside.outlets.items c.args.k no_outlet
outlet_lent c =
    outlet-lent c.from.inside.outlets.items c.args.k c.index_mut.result.now
    (omega (arith, output_there c, outlets-count c.from.inside.outlets.items)) c.index_mut.ensures.value

outlet_there : (c : goal.After-to-1) → c.index_mut.result.now.outlet ≡ outlet_at (outlets c) c.args.k
outlet_there c = ap (λ (n : NotedOutlet). n.outlet) (outlet_lent c) ∙ sym (outlet-at c.from.inside.outlets.items c.args.k)

same_but_seen : (c : goal.After-to-1) → unseen_outlet c.meet_ends.new.outlet ≡ unseen_outlet (outlet_at (outlets c) c.args.k)
same_but_seen c = c.meet_ends.ensures.outlet ∙ ap unseen_outlet (outlet_there c)

met_outlets_are : (c : goal.After-to-1) → outlets_of (met_outlets c) ≡ set (outlets c) c.args.k c.meet_ends.new.outlet
met_outlets_are c = outlets-set c.from.inside.outlets.items c.args.k _

-- the station of the outlet after it
abbrev after_from : goal.After-to-1 → WorkStation
after_from c = record (the_view c.from.inside) { outlets = outlets_of (met_outlets c) }

from_at : (c : goal.After-to-1) → outlet_at (outlets_of (met_outlets c)) c.args.k ≡ c.meet_ends.new.outlet
from_at c =
    ap (λ (l : List Outlet). outlet_at l c.args.k) (met_outlets_are c)
    ∙ at-set (outlets c) c.args.k c.meet_ends.new.outlet (output_there c)

outlet_was : (c : goal.After-to-1) → c.index_mut.result.now.outlet ≡ outlet_at c.args.from.now.outlets c.args.k
outlet_was c = outlet_there c ∙ ap (λ (s : WorkStation). outlet_at s.outlets c.args.k) c.from.view_is

from_is : (c : goal.After-to-1) → after_from c ≡ with_outlet (the_view c.from.inside) c.args.k c.meet_ends.new.outlet
from_is c = ap (λ (l : List Outlet). record (the_view c.from.inside) { outlets = l }) (met_outlets_are c)

-- ---- what both are after it

from_stands : (c : goal.After-to-1) → IsStation (after_from c)
from_stands c =
    subst IsStation (sym (from_is c))
    (station-alike (the_view c.from.inside) (set (outlets c) c.args.k c.meet_ends.new.outlet)
    (alike-set (outlets c) c.args.k c.meet_ends.new.outlet (output_there c) (same_but_seen c))
    c.from.invariant.station)

to_stands : (c : goal.After-to-1) → IsStation (after_to c)
to_stands c =
    subst IsStation (sym (to_is c))
    (station-met (the_view c.to.inside) c.args.j c.meet_ends.new.inlet c.index_mut-2.result.now.input.hand c.to.invariant.station)

pub invariant_of-from : goal.invariant_of-from
invariant_of-from c =
    let s = c.from.inside in record {
      station = from_stands c;
      noted = noted-same s.graph.value s.number s.inputs.items s.inputs.items s.outlets.items (met_outlets c) s.fixed s.worked.items s.bounded s.rings
          (λ is. refl)
          (delays-stay s.outlets.items c.args.k _ (ap (λ (n : NotedOutlet). n.delay) (outlet_lent c)))
          (ap (map bare_outlet) (met_outlets_are c) ∙ bare-set (outlets c) c.args.k c.meet_ends.new.outlet (same_but_seen c))
          c.from.invariant.noted;
      readied = c.from.invariant.readied;
      waiting = c.from.invariant.waiting;
    }

pub invariant_of-to : goal.invariant_of-to
invariant_of-to c =
    let s = c.to.inside in record {
      station = to_stands c;
      noted = noted-same s.graph.value s.number s.inputs.items (met_inputs c) s.outlets.items s.outlets.items s.fixed s.worked.items s.bounded s.rings
          (λ is. extras-stay s.inputs.items c.args.j _ (ap (λ (n : NotedInput). n.extra) (lent c)))
          refl
          refl
          c.to.invariant.noted;
      readied = readied-met s.graph.value s.number (inputs c) c.args.j (met_input c) (inputs_of (met_inputs c)) s.fronts.items s.fixed s.bounded s.rings_in s.direct s.at_once
          (met_inputs_are c)
          (there c)
          (ap (λ (i : Inlet). (let m : Input = record { inlet = i; hand = None } in m)) (sym (bare-unseen c.meet_ends.new.inlet) ∙ ap bare_inlet (same_but_known c) ∙ bare-unseen (input_at (inputs c) c.args.j).inlet))
          (ap (λ (i : Input). i.hand) (at c))
          c.to.invariant.readied;
      waiting = waiting-stays s.graph.value s.number (inputs c) (inputs_of (met_inputs c)) s.log.value s.at_once s.waits_for
          (ap length (met_inputs_are c) ∙ length-set (inputs c) c.args.j (met_input c))
          (hands-met (inputs c) c.args.j (met_input c) (inputs_of (met_inputs c)) (met_inputs_are c) (there c) (ap (λ (i : Input). i.hand) (at c)))
          c.to.invariant.waiting;
    }

pub returns-clause-from : goal.returns-clause-from
returns-clause-from c =
    from_is c
    ∙ ap (λ (s : WorkStation). with_outlet s c.args.k c.meet_ends.new.outlet) c.from.view_is
    ∙ ap (with_outlet c.args.from.now c.args.k) (sym (from_at c))

pub returns-clause-to : goal.returns-clause-to
returns-clause-to c =
    let hand : c.index_mut-2.result.now.input.hand ≡ (input_at (inputs c) c.args.j).hand = ap (λ (i : Input). i.hand) (at c) in
    to_is c
    ∙ ap (met_station (the_view c.to.inside) c.args.j c.meet_ends.new.inlet) hand
    ∙ ap (λ (s : WorkStation). with_inlet s c.args.j c.meet_ends.new.inlet) c.to.view_is
    ∙ ap (λ (i : Input). with_inlet c.args.to.now c.args.j i.inlet) (sym (to_at c))

pub returns-clause-outlet : goal.returns-clause-outlet
returns-clause-outlet c = ap unseen_outlet (from_at c) ∙ c.meet_ends.ensures.outlet ∙ ap unseen_outlet (outlet_was c)

pub returns-clause-inlet : goal.returns-clause-inlet
returns-clause-inlet c =
    ap (λ (i : Input). unseen_inlet i.inlet) (to_at c) ∙ c.meet_ends.ensures.inlet ∙ ap unseen_inlet (inlet_was c)

pub returns-clause-space : goal.returns-clause-space
returns-clause-space c =
    subst (HasMoreSpace (outlet_at c.args.from.now.outlets c.args.k)) (sym (from_at c))
    (subst (λ (o : Outlet). HasMoreSpace o c.meet_ends.new.outlet) (outlet_was c) c.meet_ends.ensures.space)

pub returns-clause-known : goal.returns-clause-known
returns-clause-known c =
    subst (λ (i : Input). KnowsMore (input_at c.args.to.now.inputs c.args.j).inlet i.inlet) (sym (to_at c))
    (subst (λ (i : Inlet). KnowsMore i c.meet_ends.new.inlet) (inlet_was c) c.meet_ends.ensures.known)

pub returns-clause-met : goal.returns-clause-met
returns-clause-met c =
    subst (λ (i : Input). AreMet (outlet_at (outlets_of (met_outlets c)) c.args.k) i.inlet) (sym (to_at c))
    (subst (λ (o : Outlet). AreMet o c.meet_ends.new.inlet) (sym (from_at c)) c.meet_ends.ensures.met)

pub returns-clause-from_station : goal.returns-clause-from_station
returns-clause-from_station c = from_stands c

pub returns-clause-to_station : goal.returns-clause-to_station
returns-clause-to_station c = to_stands c

pub returns-clause-from_bare : goal.returns-clause-from_bare
returns-clause-from_bare c =
    let inside = bare_station (the_view c.from.inside) in
    ap bare_station (from_is c)
    ∙ ap (λ (l : List Outlet). record inside { outlets = l }) (bare-set (outlets c) c.args.k c.meet_ends.new.outlet (same_but_seen c))
    ∙ ap bare_station c.from.view_is

pub returns-clause-from_kept : goal.returns-clause-from_kept
returns-clause-from_kept c shelf =
    let met = set (outlets c) c.args.k c.meet_ends.new.outlet in
    subst (λ (s : WorkStation). IsKept shelf c.args.from.now → IsKept shelf s) (sym (from_is c))
    (subst (λ (s : WorkStation). IsKept shelf s → IsKept shelf (record (the_view c.from.inside) { outlets = met })) c.from.view_is
    (kept-alike shelf (the_view c.from.inside) met (alike-set (outlets c) c.args.k c.meet_ends.new.outlet (output_there c) (same_but_seen c))))

pub returns-clause-to_bare : goal.returns-clause-to_bare
returns-clause-to_bare c =
    let inside = bare_station (the_view c.to.inside) in
    ap bare_station (to_is c)
    ∙ ap (λ (l : List Input). record inside { inputs = l }) (bare-met (inputs c) c.args.j c.meet_ends.new.inlet c.index_mut-2.result.now.input.hand (same_but_known c))
    ∙ ap bare_station c.to.view_is

pub returns-clause-to_kept : goal.returns-clause-to_kept
returns-clause-to_kept c shelf =
    let hand = c.index_mut-2.result.now.input.hand in
    subst (λ (s : WorkStation). IsKept shelf c.args.to.now → IsKept shelf s) (sym (to_is c))
    (subst (λ (s : WorkStation). IsKept shelf s → IsKept shelf (met_station (the_view c.to.inside) c.args.j c.meet_ends.new.inlet hand)) c.to.view_is
    (kept-met shelf (the_view c.to.inside) c.args.j c.meet_ends.new.inlet hand (there c) (same_but_known c) (ap (λ (i : Input). i.hand) (at c))))

use Rattle.std.proofs.Common.{◌≡◌, ◌+◌, ◌<◌, ℕ, List, length, set, get_or, map, refl, sym, subst, ap, ◌∙◌, arith}
use Rattle.std.specs.Prelude.{Some}
use Rattle.std.proofs.lemmas.List.{length-set}
use Rattle.station_step.specs.declared.ends.Inlet.{Inlet}
use Rattle.station_step.specs.declared.input.Input.{Input}
use Rattle.station_step.specs.declared.noted.NotedInput.{NotedInput}
use Rattle.station_step.specs.Ends.{inlet_ahead, HasAsked}
use Rattle.station_step.specs.Input.{input_at}
use Rattle.station_step.specs.Fronts.{IsReadied}
use Rattle.station_step.specs.Noted.{IsNoted, inputs_of}
use Rattle.station_step.specs.RingInputs.{HaveLooked, HasLookedIn}
use Rattle.station_step.specs.Station.{WorkStation, bare_input}
use Rattle.station_step.specs.Waits.{IsWaiting, StaysBlocked}
use Rattle.station_step.proofs.NotedExtras.{no_input, input-lent, input-at, inputs-count, inputs-set, extras-stay}
use Rattle.station_step.proofs.FrontsOf.{readied-stays}
use Rattle.station_step.proofs.KeptStations.{station-waits}
use Rattle.station_step.proofs.Looked.{bare_inputs-looked}
use Rattle.station_step.proofs.OutletLooks.{noted-same}
use Rattle.station_step.proofs.RefilledHands.{input_at-set}
use Rattle.station_step.proofs.WaitingStations.{waiting-stays, looked-set, none-where_not, stays-blocked}
use Rattle.station_step.specs.contracts.station.Station.{the_view}
use Rattle.station_step.proofs.station.Station.stay_blocked.Goals as goal
use Rattle.station_step.proofs.station.Station.stay_blocked.Goals.{After-has_token}

-- ---- the input that has looked

abbrev inputs : After-has_token → List Input
inputs c = (the_view c.self.inside).inputs

-- the station waits for it
waits : (c : After-has_token) → IsWaiting c.self.inside.graph.value c.self.inside.number (inputs c) c.self.inside.log.value c.self.inside.at_once (Some c.in-Some.hand)
waits c =
    let s = c.self.inside in
    subst (IsWaiting s.graph.value s.number (inputs c) s.log.value s.at_once) c.in-Some.is c.self.invariant.waiting

there : (c : After-has_token) → c.in-Some.hand.input < length (inputs c)
there c = (waits c).hand.there

-- it, and all of them, after its look
abbrev noted : After-has_token → NotedInput
noted c = record {
  input = record { inlet = c.has_token.new.self; hand = c.index_mut.result.now.input.hand };
  extra = c.index_mut.result.now.extra;
}

abbrev items : After-has_token → List NotedInput
items c = set c.self.inside.inputs.items c.in-Some.hand.input (noted c)

lent : (c : After-has_token) → c.index_mut.result.now ≡ get_or c.self.inside.inputs.items c.in-Some.hand.input no_input
lent c =
    input-lent c.self.inside.inputs.items c.in-Some.hand.input c.index_mut.result.now
    (omega (arith, there c, inputs-count c.self.inside.inputs.items)) c.index_mut.ensures.value

at : (c : After-has_token) → c.index_mut.result.now.input ≡ input_at (inputs c) c.in-Some.hand.input
at c =
    ap (λ (n : NotedInput). n.input) (lent c)
    ∙ sym (input-at c.self.inside.inputs.items c.in-Some.hand.input)

changed : (c : After-has_token) → set (inputs c) c.in-Some.hand.input (noted c).input ≡ inputs_of (items c)
changed c = sym (inputs-set c.self.inside.inputs.items c.in-Some.hand.input (noted c))

have_looked : (c : After-has_token) → HaveLooked (the_view c.self.inside) (record (the_view c.self.inside) { inputs = inputs_of (items c) })
have_looked c =
    let k = c.in-Some.hand.input in
    let has : HasLookedIn (input_at (inputs c) k) (noted c).input =
    subst (λ (i : Input). HasLookedIn i (noted c).input) (at c)
    (record { same = c.has_token.ensures.same; more = c.has_token.ensures.more; looks = c.has_token.ensures.looks; hand = refl }) in
    record {
      rest = refl;
      count = ap length (sym (changed c)) ∙ length-set (inputs c) k (noted c).input;
      each = subst (λ (l : List Input). (j : ℕ) → j < length (inputs c) → HasLookedIn (input_at (inputs c) j) (input_at l j)) (changed c)
          (looked-set (inputs c) k (noted c).input (there c) has);
    }

bare_looked : (c : After-has_token) → map bare_input (inputs_of (items c)) ≡ map bare_input (inputs c)
bare_looked c =
    let s = the_view c.self.inside in
    bare_inputs-looked s (record s { inputs = inputs_of (items c) }) (have_looked c)

-- ---- what the station keeps

noted_looked : (c : After-has_token) → IsNoted c.self.inside.graph.value c.self.inside.number (items c) c.self.inside.outlets.items c.self.inside.fixed c.self.inside.worked.items c.self.inside.bounded c.self.inside.rings
noted_looked c =
    let s = c.self.inside in
    noted-same s.graph.value s.number s.inputs.items (items c) s.outlets.items s.outlets.items s.fixed s.worked.items s.bounded s.rings
    (λ _. extras-stay s.inputs.items c.in-Some.hand.input (noted c) (ap (λ (n : NotedInput). n.extra) (lent c)))
    refl refl c.self.invariant.noted

readied_looked : (c : After-has_token) → IsReadied c.self.inside.graph.value c.self.inside.number (inputs_of (items c)) c.self.inside.fronts.items c.self.inside.fixed c.self.inside.bounded c.self.inside.rings_in c.self.inside.direct c.self.inside.at_once
readied_looked c =
    let s = c.self.inside in
    readied-stays s.graph.value s.number (inputs c) (inputs_of (items c)) s.fronts.items s.fixed s.bounded s.rings_in s.direct s.at_once
    (have_looked c).count (bare_looked c)
    (λ k low. ((have_looked c).each k low).hand)
    c.self.invariant.readied

waiting_looked : (c : After-has_token) → IsWaiting c.self.inside.graph.value c.self.inside.number (inputs_of (items c)) c.self.inside.log.value c.self.inside.at_once c.self.inside.waits_for
waiting_looked c =
    let s = c.self.inside in
    waiting-stays s.graph.value s.number (inputs c) (inputs_of (items c)) s.log.value s.at_once s.waits_for
    (have_looked c).count
    (λ k low. ((have_looked c).each k low).hand)
    c.self.invariant.waiting

pub invariant_of-self : goal.invariant_of-self
invariant_of-self c =
    let from = (goal.at.invariant_of-self c).After-has_token in
    let s = the_view c.self.inside in
    record {
      station = station-waits s (inputs_of (items from)) s.turns (have_looked from).count c.self.invariant.station;
      noted = noted_looked from;
      readied = readied_looked from;
      waiting = waiting_looked from;
    }

pub invariant_of-self-2 : goal.invariant_of-self-2
invariant_of-self-2 c =
    let from = (goal.at.invariant_of-self-2 c).After-has_token in
    let s = the_view c.self.inside in
    record {
      station = station-waits s (inputs_of (items from)) (s.turns + 1) (have_looked from).count c.self.invariant.station;
      noted = noted_looked from;
      readied = readied_looked from;
      waiting = waiting_looked from;
    }

-- ---- what it answers

pub returns-then-has_token-clause-looked : goal.returns-then-has_token-clause-looked
returns-then-has_token-clause-looked c =
    let from = (goal.at.returns-then-has_token-clause-looked c).After-has_token in
    let s = the_view c.self.inside in
    subst (λ (w : WorkStation). HaveLooked w (record s { inputs = inputs_of (items from) })) c.self.view_is (have_looked from)

pub returns-clause-blocked : goal.returns-clause-blocked
returns-clause-blocked c =
    let from = (goal.at.returns-clause-blocked c).After-has_token in
    let s = the_view c.self.inside in
    let shelf = c.args.shelf.now.queues in
    let k = c.in-Some.hand.input in
    let after = inputs_of (items from) in
    let looked_at : (input_at after k).inlet ≡ c.has_token.new.self =
    ap (λ (l : List Input). (input_at l k).inlet) (sym (changed from))
    ∙ ap (λ (i : Input). i.inlet) (input_at-set (inputs from) k (noted from).input (there from)) in
    let none : inlet_ahead shelf (input_at after k).inlet ≡ 0 =
    ap (inlet_ahead shelf) looked_at
    ∙ none-where_not c.has_token.result (inlet_ahead shelf c.has_token.new.self) c.if-has_token.false c.has_token.ensures.there.1 in
    let asked : HasAsked (input_at (inputs from) k).inlet (input_at after k).inlet =
    subst (λ (i : Inlet). HasAsked (input_at (inputs from) k).inlet i) (sym looked_at)
    (subst (λ (i : Input). HasAsked i.inlet c.has_token.new.self) (at from) c.has_token.ensures.asked) in
    subst (λ (w : WorkStation). StaysBlocked shelf w (record s { inputs = after; turns = s.turns + 1 }) c.in-Some.hand.arc) c.self.view_is
    (stays-blocked shelf s after c.in-Some.hand c.self.invariant.station (waits from).left (waits from).hand (have_looked from) none asked)

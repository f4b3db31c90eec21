use Rattle.std.proofs.Common.{◌≡◌, ◌<◌, ◌+◌, ℕ, max, refl, sym, subst, ap, ◌∙◌, arith, List, length, get_or, set}
use Rattle.std.specs.Prelude.{Option, None, Some, slice_index}
use Rattle.std.specs.List.{range_with_len}
use Rattle.std.proofs.lemmas.List.{get_or_default}
use Rattle.event_graph.specs.GreatestValue.{greatest}
use Rattle.station_step.specs.declared.input.Input.{Input}
use Rattle.station_step.specs.declared.noted.NotedInput.{NotedInput}
use Rattle.station_step.specs.Ends.{HasKnown}
use Rattle.station_step.specs.Input.{input_at}
use Rattle.station_step.specs.Kept.{saturating}
use Rattle.station_step.specs.Noted.{inputs_of, extras_of}
use Rattle.station_step.specs.RingInputs.{ring_asks}
use Rattle.station_step.proofs.NotedExtras.{no_input, input-at, extra-at, inputs-count, inputs-set, extras-stay}
use Rattle.station_step.proofs.RingInputs.{GaveUpTo, HasTaken, ring_ask, gave_none, gave_more, latest-none_gave, latest-gave_more, latest-token, latest-no_token, latest-no_rings}
use Rattle.station_step.proofs.ring_inputs.take_rings.Goals.{in-Some, in_default, After-noted-item}
use Rattle.station_step.proofs.ring_inputs.take_rings.Goals as goal

-- where none is over a ring, nothing is asked
pub returns-then-not-rings-clause-date : goal.returns-then-not-rings-clause-date
returns-then-not-rings-clause-date c =
    latest-no_rings (extras_of c.args.inputs.now.items) (inputs_of c.args.inputs.now.items) c.args.date (sym c.requires.noted ∙ c.if-not-rings.true)

pub loop-noted-init : goal.loop-noted-init
loop-noted-init c =
    let all = c.deref_mut-noted-items.ensures.value in
    let before = inputs_of c.args.inputs.now.items in
    record {
      extras = ap extras_of all;
      gave = subst (λ (l : List NotedInput). GaveUpTo 0 before (inputs_of l)) (sym all) (gave_none before);
      date = latest-none_gave (ring_asks (extras_of c.args.inputs.now.items) before (inputs_of c.deref_mut-noted-items.result.now)) c.args.date;
    }

-- ---- the input whose turn it is

abbrev lent : After-noted-item → NotedInput
lent c = get_or c.loop-noted.noted-items c.loop-noted.noted-index c.noted-item.result

there : (c : After-noted-item) → c.loop-noted.noted-index < length c.loop-noted.noted-items
there c = omega (arith, c.loop-noted-test.true, c.loop-noted.auto.noted-items)

lent-is : (c : After-noted-item) → lent c ≡ get_or c.loop-noted.noted-items c.loop-noted.noted-index no_input
lent-is c = get_or_default c.loop-noted.noted-items c.loop-noted.noted-index _ _ (there c)

-- it is as it was before the walk
at : (c : After-noted-item) → (lent c).input ≡ input_at (inputs_of c.args.inputs.now.items) c.loop-noted.noted-index
at c =
    ap (λ (n : NotedInput). n.input) (lent-is c)
    ∙ sym (input-at c.loop-noted.noted-items c.loop-noted.noted-index)
    ∙ c.loop-noted.invariant.gave.rest c.loop-noted.noted-index (omega arith)

pub take_known-requires : goal.take_known-requires
take_known-requires c =
    let from = (goal.at.take_known-requires c).After-noted-item in
    let low : c.loop-noted.noted-index < length (inputs_of c.args.inputs.now.items) =
    omega (arith, c.loop-noted-test.true, ap length c.deref_mut-noted-items.ensures.value, inputs-count c.args.inputs.now.items) in
    subst (λ (i : Input). HasKnown i.inlet) (sym (at from)) (c.requires.known c.loop-noted.noted-index low)

pub loop-noted-preserved : goal.loop-noted-preserved
loop-noted-preserved c =
    let from = (goal.at.loop-noted-preserved c).After-noted-item in
    let before = inputs_of c.args.inputs.now.items in
    let extras = extras_of c.args.inputs.now.items in
    let items = c.loop-noted.noted-items in
    let inputs = inputs_of items in
    let k = c.loop-noted.noted-index in
    let was = c.loop-noted.invariant in
    let input : Input = record { inlet = c.take_known.new.self; hand = (lent from).input.hand } in
    let noted : NotedInput = record { input = input; extra = (lent from).extra } in
    let low : k < length inputs = omega (arith, there from, inputs-count items) in
    let extra : (lent from).extra ≡ (get_or items k no_input).extra = ap (λ (n : NotedInput). n.extra) (lent-is from) in
    let adds : (lent from).extra ≡ slice_index extras k =
    extra ∙ sym (extra-at items k) ∙ ap (λ (l : List ℕ). slice_index l k) was.extras in
    let took : (token : Option ℕ) → c.take_known.result ≡ token → HasTaken token (input_at before k) input =
    λ token is.
    subst (λ (i : Input). HasTaken token i input) (at from)
    (subst (λ (o : Option ℕ). HasTaken o (lent from).input input) is (record {
      ring = c.take_known.ensures.ring;
      same = c.take_known.ensures.same;
      taken = c.take_known.ensures.taken;
      stays = c.take_known.ensures.stays;
      hand = refl;
    })) in
    let now : c.match-take_known.noted-items ≡ set items k noted =
    elim c.match-take_known.branch [ in-Some w ↦ w.noted-items-is | in_default w ↦ w.noted-items-is ] in
    let changed : set inputs k input ≡ inputs_of c.match-take_known.noted-items =
    sym (ap inputs_of now ∙ inputs-set items k noted) in
    let latest : c.match-take_known.latest ≡ max c.loop-noted.latest (ring_ask (slice_index extras k) (input_at before k) input) =
    elim c.match-take_known.branch [
      | in-Some w ↦
          w.latest-is
          ∙ w.max-latest.ensures
          ∙ ap (max c.loop-noted.latest) (w.saturating_add.ensures ∙ ap (saturating w.in-Some.token) adds)
          ∙ latest-token w.in-Some.token (slice_index extras k) c.loop-noted.latest (input_at before k) input (took (Some w.in-Some.token) w.in-Some.is)
      | in_default w ↦
          w.latest-is
          ∙ latest-no_token (slice_index extras k) c.loop-noted.latest (input_at before k) input (took None w.in_default.is)
    ] in
    record {
      extras = ap extras_of now ∙ extras-stay items k noted extra ∙ was.extras;
      gave =
          subst (GaveUpTo (k + 1) before) changed
          (gave_more k before inputs input c.take_known.result low was.gave (took c.take_known.result refl));
      date =
          latest-gave_more extras k before inputs input c.args.date c.loop-noted.latest c.match-take_known.latest low was.date latest
          ∙ ap (λ (l : List Input). max c.args.date (greatest (ring_asks extras before l) (range_with_len 0 (k + 1)))) changed;
    }

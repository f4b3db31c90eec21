use Rattle.std.proofs.Common.{◌≡◌, ◌<◌, ◌+◌, ◌++◌, List, take, drop, map, ap, subst, sym, ◌∙◌, arith, length, get_or, refl}
use Rattle.std.specs.Prelude.{None}
use Rattle.std.proofs.lemmas.List.{get_or_default}
use Rattle.station_step.specs.declared.input.Input.{Input}
use Rattle.station_step.specs.declared.noted.NotedInput.{NotedInput}
use Rattle.station_step.specs.Input.{input_at}
use Rattle.station_step.specs.Noted.{inputs_of, extras_of}
use Rattle.station_step.specs.Station.{bare_input}
use Rattle.station_step.proofs.EmptiedHands.{EmptiedUpTo, emptied_none, emptied_more}
use Rattle.station_step.proofs.NotedExtras.{no_input, input-at, inputs-count, inputs-set, extras-stay}
use Rattle.station_step.proofs.Turns.{given_back}
use Rattle.station_step.proofs.inputs.empty_hands.Goals as goal

pub loop-noted-init : goal.loop-noted-init
loop-noted-init c = record { extras = refl; emptied = emptied_none (inputs_of c.deref_mut-noted-items.result.now) }

pub loop-noted-preserved : goal.loop-noted-preserved
loop-noted-preserved c =
    let before = inputs_of c.deref_mut-noted-items.result.now in
    let items = c.loop-noted.noted-items in
    let k = c.loop-noted.noted-index in
    let low : k < length items = omega arith in
    let lent : NotedInput = get_or items k c.noted-item.result in
    let is_lent : lent ≡ get_or items k no_input = get_or_default items k _ _ low in
    let input : Input = record { inlet = lent.input.inlet; hand = None } in
    let noted : NotedInput = record { input = input; extra = lent.extra } in
    let inlet : input.inlet ≡ (input_at (inputs_of items) k).inlet =
    ap (λ (n : NotedInput). n.input.inlet) is_lent ∙ ap (λ (i : Input). i.inlet) (sym (input-at items k)) in
    record {
      extras = extras-stay items k noted (ap (λ (n : NotedInput). n.extra) is_lent) ∙ c.loop-noted.invariant.extras;
      emptied =
          subst (EmptiedUpTo (k + 1) before) (sym (inputs-set items k noted))
          (emptied_more k before (inputs_of items) input (omega (arith, low, inputs-count items)) c.loop-noted.invariant.emptied inlet refl);
    }

-- ---- what is so when the loop has ended

-- the inputs as the loop leaves them
left-is : (c : goal.After-inputs-1) → take c.args.inputs.now.len (c.loop-noted.noted-items ++ drop (length c.loop-noted.noted-items) c.args.inputs.now.items) ≡ c.loop-noted.noted-items
left-is c =
    let items = c.loop-noted.noted-items in
    given_back c.args.inputs.now.len items _
    (omega (arith, c.loop-noted.auto.noted-items, ap length c.deref_mut-noted-items.ensures.value, c.args.inputs.now.ok.0))

-- its hands are empty, and all else is as it was
emptied : (c : goal.After-inputs-1) → EmptiedUpTo c.loop-noted.noted-index (inputs_of c.args.inputs.now.items) (inputs_of c.loop-noted.noted-items)
emptied c =
    subst (λ (l : List NotedInput). EmptiedUpTo c.loop-noted.noted-index (inputs_of l) (inputs_of c.loop-noted.noted-items)) c.deref_mut-noted-items.ensures.value c.loop-noted.invariant.emptied

pub returns-clause-count : goal.returns-clause-count
returns-clause-count c = ap (λ (l : List NotedInput). length (inputs_of l)) (left-is c) ∙ (emptied c).count

pub returns-clause-extras : goal.returns-clause-extras
returns-clause-extras c =
    ap extras_of (left-is c) ∙ c.loop-noted.invariant.extras ∙ ap extras_of c.deref_mut-noted-items.ensures.value

pub returns-clause-inlets : goal.returns-clause-inlets
returns-clause-inlets c k =
    ap (λ (l : List NotedInput). (input_at (inputs_of l) k).inlet) (left-is c) ∙ (emptied c).inlets k

pub returns-clause-same : goal.returns-clause-same
returns-clause-same c = ap (λ (l : List NotedInput). map bare_input (inputs_of l)) (left-is c) ∙ (emptied c).same

pub returns-clause-hands : goal.returns-clause-hands
returns-clause-hands c k low =
    let all = c.deref_mut-noted-items.ensures.value in
    ap (λ (l : List NotedInput). (input_at (inputs_of l) k).hand) (left-is c)
    ∙ (emptied c).hands k (omega (arith, low, inputs-count c.args.inputs.now.items, ap length all, c.loop-noted-test.false, c.loop-noted.auto.noted-index-end))

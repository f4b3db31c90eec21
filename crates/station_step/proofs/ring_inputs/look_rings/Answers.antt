use Rattle.std.proofs.Common.{◌≡◌, ◌<◌, ◌+◌, List, refl, sym, subst, ap, ◌∙◌, arith, length, get_or, set, get_or-set_same}
use Rattle.std.specs.Prelude.{false, None, IsTrue}
use Rattle.std.proofs.lemmas.List.{get_or_default, length-set}
use Rattle.station_step.specs.declared.ends.Inlet.TheVariants.{Local}
use Rattle.station_step.specs.Ends.{HasKnown}
use Rattle.station_step.specs.declared.input.Input.{Input}
use Rattle.station_step.specs.declared.noted.NotedInput.{NotedInput}
use Rattle.station_step.specs.Input.{input_at}
use Rattle.station_step.specs.Noted.{inputs_of, extras_of}
use Rattle.station_step.specs.RingInputs.{HasLookedIn, AreKnown}
use Rattle.station_step.proofs.NotedExtras.{no_input, input-at, inputs-count, inputs-set, extras-stay}
use Rattle.station_step.proofs.RingInputs.{LookedUpTo, KnownUpTo, looked_more, looked-each, known_more}
use Rattle.station_step.proofs.Turns.{walked, walked-is}
use Rattle.station_step.proofs.ring_inputs.look_rings.Goals.{After-look}
use Rattle.station_step.proofs.ring_inputs.look_rings.Goals as goal

-- ---- what is so when an input has looked

-- the input whose turn it is, and what is noted beside it
abbrev lent : After-look → NotedInput
lent c = get_or c.loop-noted.noted-items c.loop-noted.noted-index c.noted-item.result

there : (c : After-look) → c.loop-noted.noted-index < length c.loop-noted.noted-items
there c = omega (arith, c.loop-noted-test.true, c.loop-noted.auto.noted-items)

low : (c : After-look) → c.loop-noted.noted-index < length (inputs_of c.loop-noted.noted-items)
low c = omega (arith, there c, inputs-count c.loop-noted.noted-items)

lent-is : (c : After-look) → lent c ≡ get_or c.loop-noted.noted-items c.loop-noted.noted-index no_input
lent-is c = get_or_default c.loop-noted.noted-items c.loop-noted.noted-index _ _ (there c)

-- it, and all of them, after its look
abbrev noted : After-look → NotedInput
noted c =
    record { input = record { inlet = c.look.new.self; hand = (lent c).input.hand }; extra = (lent c).extra }

abbrev items : After-look → List NotedInput
items c = set c.loop-noted.noted-items c.loop-noted.noted-index (noted c)

extras : (c : After-look) → extras_of (items c) ≡ extras_of c.args.inputs.now.items
extras c =
    extras-stay c.loop-noted.noted-items c.loop-noted.noted-index (noted c) (ap (λ (n : NotedInput). n.extra) (lent-is c))
    ∙ c.loop-noted.invariant.extras

changed : (c : After-look) → set (inputs_of c.loop-noted.noted-items) c.loop-noted.noted-index (noted c).input ≡ inputs_of (items c)
changed c = sym (inputs-set c.loop-noted.noted-items c.loop-noted.noted-index (noted c))

looked : (c : After-look) → LookedUpTo (c.loop-noted.noted-index + 1) (inputs_of c.args.inputs.now.items) (inputs_of (items c))
looked c =
    let before = inputs_of c.args.inputs.now.items in
    let inputs = inputs_of c.loop-noted.noted-items in
    let k = c.loop-noted.noted-index in
    let at : (lent c).input ≡ input_at inputs k =
    ap (λ (n : NotedInput). n.input) (lent-is c) ∙ sym (input-at c.loop-noted.noted-items k) in
    let has : HasLookedIn (lent c).input (noted c).input = record { same = c.look.ensures.same; more = c.look.ensures.more; looks = c.look.ensures.looks; hand = refl } in
    subst (LookedUpTo (k + 1) before) (changed c)
    (looked_more k before inputs (noted c).input (low c) c.loop-noted.invariant.looked
    (subst (λ (i : Input). HasLookedIn i (noted c).input) at has))

-- where it has a token, the walk goes on
pub loop-noted-preserved : goal.loop-noted-preserved
loop-noted-preserved c =
    let from = (goal.at.loop-noted-preserved c).After-look in
    let k = c.loop-noted.noted-index in
    record {
      extras = extras from;
      looked = looked from;
      known =
          subst (KnownUpTo (k + 1)) (changed from)
          (known_more k (inputs_of c.loop-noted.noted-items) (noted from).input (low from) c.loop-noted.invariant.known
          (c.look.ensures.known.0 c.if-not-look.false));
    }

-- ---- where it has none, the walk ends there

left-is : (c : After-look) → walked c.args.inputs.now (items c) ≡ items c
left-is c =
    walked-is c.args.inputs.now (items c)
    (omega (arith, (looked c).count, inputs-count (items c), inputs-count c.args.inputs.now.items))

pub returns-then-not-look-clause-extras : goal.returns-then-not-look-clause-extras
returns-then-not-look-clause-extras c =
    let from = (goal.at.returns-then-not-look-clause-extras c).After-look in
    ap extras_of (left-is from) ∙ extras from

pub returns-then-not-look-clause-looked : goal.returns-then-not-look-clause-looked
returns-then-not-look-clause-looked c k low =
    let from = (goal.at.returns-then-not-look-clause-looked c).After-look in
    let before = inputs_of c.args.inputs.now.items in
    subst (λ (l : List NotedInput). HasLookedIn (input_at before k) (input_at (inputs_of l) k)) (sym (left-is from))
    (looked-each (c.loop-noted.noted-index + 1) before (inputs_of (items from)) (looked from) k)

-- a token is known at each input, and there is none at the one that has looked last
none-known : (c : After-look) → c.look.result ≡ false → AreKnown (inputs_of (items c)) → ⊥
none-known c none all =
    let inputs = inputs_of c.loop-noted.noted-items in
    let k = c.loop-noted.noted-index in
    let here : HasKnown c.look.new.self =
    subst (λ (i : Input). HasKnown i.inlet)
    (ap (λ (l : List Input). input_at l k) (sym (changed c)) ∙ get_or-set_same inputs k (noted c).input (record { inlet = Local 0; hand = None }) (low c))
    (all k (subst (λ (l : List Input). k < length l) (changed c) (omega (arith, low c, length-set inputs k (noted c).input)))) in
    let known : IsTrue c.look.result = c.look.ensures.known.1 here in
    absurd (cc)

pub returns-then-not-look-clause-known : goal.returns-then-not-look-clause-known
returns-then-not-look-clause-known c =
    let from = (goal.at.returns-then-not-look-clause-known c).After-look in (
      λ never. absurd (cc),
      λ all. absurd (none-known from c.if-not-look.true (subst (λ (l : List NotedInput). AreKnown (inputs_of l)) (left-is from) all)),
    )

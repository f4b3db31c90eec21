use Rattle.std.proofs.Common.{◌≡◌, ◌<◌, ◌+◌, ◌++◌, ℕ, ap, sym, ◌∙◌, subst, arith, length, set, get_or, take, drop}
use Rattle.std.specs.Prelude.{Bool, false, if◌then◌else◌}
use Rattle.std.proofs.lemmas.List.{get_or_default}
use Rattle.station_step.specs.declared.noted.NotedInput.{NotedInput}
use Rattle.station_step.specs.Noted.{inputs_of, extras_of}
use Rattle.station_step.proofs.NotedExtras.{NotedUpTo, noted_none, noted_more, noted_all}
use Rattle.station_step.proofs.Turns.{given_back}
use Rattle.station_step.proofs.noted.note_time.Goals.{then-worked-k, else-worked-k, After-loop-k}
use Rattle.station_step.proofs.noted.note_time.Goals as goal

pub loop-k-init : goal.loop-k-init
loop-k-init c =
    subst (NotedUpTo 0 c.args.worked.now c.args.time c.args.inputs.now.items) (sym c.deref_mut-noted-items.ensures.value)
    (noted_none c.args.worked.now c.args.time c.args.inputs.now.items)

pub loop-k-preserved : goal.loop-k-preserved
loop-k-preserved c =
    let before = c.args.inputs.now.items in
    let items = c.loop-k.noted-items in
    let k = c.loop-k.k in
    let low : k < length items = omega (arith, c.loop-k-test.true, c.loop-k.auto.noted-items) in
    let lent : NotedInput = get_or items k c.noted-item.result in
    let more : (extra : ℕ) → extra ≡ (if get_or c.args.worked.now k false then c.args.time else 0) → NotedUpTo (k + 1) c.args.worked.now c.args.time before (set items k (record { input = lent.input; extra = extra })) =
    λ extra is.
    noted_more k c.args.worked.now c.args.time before items _ low (c.requires ∙ sym c.loop-k.invariant.count)
    (ap (λ (n : NotedInput). n.input) (get_or_default items k _ _ low)) is c.loop-k.invariant in
    elim c.if-worked-k.branch [
      | then-worked-k w ↦
          more c.if-worked-k.noted
          (w.noted-is ∙ ap (λ (b : Bool). if b then c.args.time else 0) (sym w.if-worked-k.true))
      | else-worked-k w ↦
          more c.if-worked-k.noted
          (w.noted-is ∙ ap (λ (b : Bool). if b then c.args.time else 0) (sym w.if-worked-k.false))
    ]

-- the inputs as the loop leaves them
left-is : (c : After-loop-k) → take c.args.inputs.now.len (c.loop-k.noted-items ++ drop (length c.loop-k.noted-items) c.args.inputs.now.items) ≡ c.loop-k.noted-items
left-is c =
    given_back c.args.inputs.now.len c.loop-k.noted-items _ (omega (arith, c.loop-k.invariant.count, c.args.inputs.now.ok.0))

pub returns-clause-inputs : goal.returns-clause-inputs
returns-clause-inputs c =
    ap inputs_of (left-is (goal.at.returns-clause-inputs c).After-loop-k) ∙ c.loop-k.invariant.inputs

pub returns-clause-extras : goal.returns-clause-extras
returns-clause-extras c =
    ap extras_of (left-is (goal.at.returns-clause-extras c).After-loop-k)
    ∙ noted_all c.loop-k.k c.args.worked.now c.args.time c.args.inputs.now.items c.loop-k.noted-items
    (omega (arith, c.loop-k-test.false, c.loop-k.auto.k-end, ap length c.deref_mut-noted-items.ensures.value))
    c.requires c.loop-k.invariant

use Rattle.std.proofs.Common.{◌≡◌, ℕ, ◌+◌, ◌<◌, List, [], ◌∷◌, ◌++◌, length, get_or, map, sym, ap, ◌∙◌, subst, arith}
use Rattle.std.proofs.lemmas.List.{take_all}
use Rattle.std.proofs.lemmas.Result.{err_from_is_err_and}
use Rattle.plant_model.proofs.SoundPlants.{HasSoundSizes-sound}
use Rattle.plant_model.specs.Stages.{Stage}
use Rattle.card_sizing.specs.Each.{HaveReasons, IsBelowAt, below_at, counts_of, names_of}
use Rattle.card_sizing.specs.declared.each.StageSizing.{StageSizing}
use Rattle.card_sizing.proofs.StageSearches.{counts_more, names_more, reasons_more}
use Rattle.card_sizing.proofs.lowering.with_reasons.Goals as goal

pub reason_of-requires-clause-few_tries : goal.reason_of-requires-clause-few_tries
reason_of-requires-clause-few_tries c =
    omega (arith, c.loop-i.invariant.tries, c.requires.few_tries, c.loop-i-test.true, ap (λ (ss : List Stage). length ss) c.as_slice-stages.ensures, (HasSoundSizes-sound c.args.plant.now c.requires.sound).few_stages)

pub bounds-counts-i : goal.bounds-counts-i
bounds-counts-i c =
    omega (arith, c.loop-i-test.true, ap (λ (ss : List Stage). length ss) c.as_slice-stages.ensures, c.requires.fit.number)

pub push_reserved-requires : goal.push_reserved-requires
push_reserved-requires c = omega (arith, c.loop-i.invariant.count, c.loop-i.invariant.room, c.loop-i-test.true)

pub loop-i-preserved : goal.loop-i-preserved
loop-i-preserved c =
    let p = c.args.plant.now in
    let counts = c.args.counts.now in
    let i = c.loop-i.i in
    let before = c.loop-i.invariant in
    let old = c.loop-i.sizings.items in
    let new = c.push_reserved.new.self.items in
    let s : StageSizing = record { stage = c.in_ok-copy.field-0; cards = get_or counts i 0; below = c.in_ok-below.below } in
    let is : new ≡ old ++ s ∷ [] = c.push_reserved.ensures.items in
    let stages = ap (λ (ss : List Stage). length ss) c.as_slice-stages.ensures in
    let low : i < length counts = omega (arith, c.loop-i-test.true, stages, c.requires.fit.number) in
    let long : length old ≡ i = omega (arith, c.loop-i.sizings.ok.0, before.count) in
    record {
      counts = counts_more old new s counts i is before.counts (λ _. get_or counts i 0) low;
      named = names_more old new s c.as_slice-stages.result.now i c.index-stages-i.result is before.named (c.in_ok-copy.ensures ∙ ap (λ (t : Stage). t.name) c.index-stages-i.is) c.loop-i-test.true;
      below = subst (λ (l : List StageSizing). HaveReasons p c.args.may counts l (i + 1)) (sym is) (reasons_more p c.args.may counts old s i long before.below c.in_ok-below.ensures.below);
      tries = omega (arith, c.in_ok-below.ensures.counted, before.tries);
      kept = omega (arith, c.in_ok-below.ensures.kept, before.kept);
      count = omega (arith, before.count, c.push_reserved.ensures.len);
      room = omega (arith, before.room, c.push_reserved.ensures.capacity);
    }

pub loop-i-init : goal.loop-i-init
loop-i-init c = record {
  counts = ap counts_of c.in_ok-sizings.ensures.items;
  named = ap names_of c.in_ok-sizings.ensures.items;
  below = λ i low. absurd (omega (arith, low));
  tries = omega arith;
  kept = omega arith;
  count = c.in_ok-sizings.ensures.len;
  room = c.in_ok-sizings.ensures.capacity;
}

pub reason_of-requires-clause-stage : goal.reason_of-requires-clause-stage
reason_of-requires-clause-stage c = omega (arith, c.loop-i-test.true, ap (λ (ss : List Stage). length ss) c.as_slice-stages.ensures)

pub returns-in_err-sizings : goal.returns-in_err-sizings
returns-in_err-sizings c =
    let p = err_from_is_err_and c.from_residual.result c.from_residual.ensures.1 in
    rw p.1 (record { counts = tt; named = tt; below = tt; counted = tt; kept = tt })

pub returns-in_err-below : goal.returns-in_err-below
returns-in_err-below c =
    let p = err_from_is_err_and c.from_residual-in_err-below.result c.from_residual-in_err-below.ensures.1 in
    rw p.1 (record { counts = tt; named = tt; below = tt; counted = tt; kept = tt })

pub returns-in_err-copy : goal.returns-in_err-copy
returns-in_err-copy c =
    let p = err_from_is_err_and c.from_residual-in_err-copy.result c.from_residual-in_err-copy.ensures.1 in
    rw p.1 (record { counts = tt; named = tt; below = tt; counted = tt; kept = tt })

pub returns : goal.returns
returns c =
    let p = c.args.plant.now in
    let counts = c.args.counts.now in
    let i = c.loop-i.i in
    let done = c.loop-i.invariant in
    let given = c.as_slice-stages.ensures in
    let long = ap (λ (ss : List Stage). length ss) given in
    let names : List Stage → List (List ℕ) = λ ss. map (λ (s : Stage). s.name) ss in
    record {
      counts = ap counts_of c.from_vec.ensures ∙ done.counts ∙ take_all i counts (omega (arith, c.loop-i-test.false, long, c.requires.fit.number));
      named = ap names_of c.from_vec.ensures ∙ done.named ∙ ap names (take_all i c.as_slice-stages.result.now c.loop-i-test.false ∙ given);
      below = λ k low. subst (λ (l : List StageSizing). IsBelowAt p c.args.may counts k (below_at l k)) (sym c.from_vec.ensures) (done.below k (omega (arith, low, c.loop-i-test.false, long)));
      kept = done.kept;
      counted = omega (arith, done.tries, c.loop-i.auto.i-end, long);
    }

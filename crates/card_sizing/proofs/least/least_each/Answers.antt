use Rattle.std.proofs.Common.{◌≡◌, ℕ, ◌+◌, ◌-◌, ◌^◌, ◌<◌, ◌≤◌, get_or, List, ◌++◌, take, drop, replicate, sym, ap, ◌∙◌, subst, arith, length}
use Rattle.std.specs.List.{sum}
use Rattle.std.proofs.lemmas.List.{take-append-le, take_all}
use Rattle.std.proofs.lemmas.Result.{err_from_is_err_and}
use Rattle.card_sizing.specs.Counted.{least_at, ServeEach, AreCounts, NoneServesLess}
use Rattle.card_sizing.specs.Each.{counts_of, HaveReasons}
use Rattle.card_sizing.specs.Lowered.{AreLowered}
use Rattle.card_sizing.specs.Serving.{Serves}
use Rattle.card_sizing.proofs.LoweredOnce.{least_once}
use Rattle.card_sizing.proofs.Refusals.{told_none, told_some, told_memory, told_refusal}
use Rattle.card_sizing.proofs.StageSearches.{serve_at_each, each_refusal}
use Rattle.card_sizing.proofs.least.least_each.Goals as goal

-- as many counts as were lent take their place
given_back : (count : ℕ) (lowered lent : List ℕ) → length lowered ≡ count → take count (lowered ++ drop (length lowered) lent) ≡ lowered
given_back count lowered lent same =
    take-append-le count lowered (drop (length lowered) lent) (omega (arith, same)) ∙ take_all count lowered (omega (arith, same))

pub returns-then-not-has_stage_counts : goal.returns-then-not-has_stage_counts
returns-then-not-has_stage_counts c =
    let none = sym c.has_stage_counts.ensures ∙ c.if-not-has_stage_counts.true in
    record { serves = tt; least = tt; in_order = tt; below = tt; named = tt; total = tt; few_tries = tt; halved = tt; refused = none; no_single_count = told_none _ none; most_serve = tt }

pub returns-in-Err : goal.returns-in-Err
returns-in-Err c =
    let some = sym c.has_stage_counts.ensures ∙ c.if-not-has_stage_counts.false in
    let why = c.in-Err.ensures.refused in
    let refused = each_refusal c.args.plant.now c.args.wait c.in-Err.refusal some why in
    let known = told_refusal c.args.plant.now c.args.wait c.in-Err.refusal some why in
    record { serves = tt; least = tt; in_order = tt; below = tt; named = tt; total = tt; few_tries = tt; halved = tt; refused = refused; no_single_count = known; most_serve = tt }

pub returns-in_err-counts : goal.returns-in_err-counts
returns-in_err-counts c =
    let some = sym c.has_stage_counts.ensures ∙ c.if-not-has_stage_counts.false in
    let p = err_from_is_err_and c.from_residual.result c.from_residual.ensures.1 in
    rw (p.1, p.2) (record { serves = tt; least = tt; in_order = tt; below = tt; named = tt; total = tt; few_tries = tt; halved = tt; refused = tt; no_single_count = told_memory _ some; most_serve = tt })

pub returns-in_err-lower_each : goal.returns-in_err-lower_each
returns-in_err-lower_each c =
    let some = sym c.has_stage_counts.ensures ∙ c.if-not-has_stage_counts.false in
    let p = err_from_is_err_and c.from_residual-in_err-lower_each.result c.from_residual-in_err-lower_each.ensures.1 in
    rw (p.1, p.2) (record { serves = tt; least = tt; in_order = tt; below = tt; named = tt; total = tt; few_tries = tt; halved = tt; refused = tt; no_single_count = told_memory _ some; most_serve = tt })

pub returns-in_err-stages : goal.returns-in_err-stages
returns-in_err-stages c =
    let some = sym c.has_stage_counts.ensures ∙ c.if-not-has_stage_counts.false in
    let p = err_from_is_err_and c.from_residual-in_err-stages.result c.from_residual-in_err-stages.ensures.1 in
    rw (p.1, p.2) (record { serves = tt; least = tt; in_order = tt; below = tt; named = tt; total = tt; few_tries = tt; halved = tt; refused = tt; no_single_count = told_memory _ some; most_serve = tt })

pub lower_each-requires : goal.lower_each-requires
lower_each-requires c =
    let made = c.in_ok-counts.ensures.items_if_clones_equal (λ y same. same) ∙ ap (λ (n : ℕ). replicate n c.in-Ok.start.cards) c.len.ensures in
    let has = sym c.has_stage_counts.ensures ∙ c.if-not-has_stage_counts.false in
    record {
      sound = c.requires.sound;
      counts = has;
      serves = serve_at_each c.args.plant.now c.requires.sound has c.args.wait c.in-Ok.start.cards _ (c.as_mut_slice.ensures.value ∙ made) c.in-Ok.ensures.serves;
      few_tries = c.in-Ok.ensures.few_tries;
    }

pub with_reasons-requires : goal.with_reasons-requires
with_reasons-requires c =
    let number = c.in_ok-lower_each.ensures.serves.counts_fit.number in
    let back = given_back c.in_ok-counts.counts.len c.lower_each.new.counts c.in_ok-counts.counts.items (omega (arith, number, c.in_ok-counts.ensures.len, c.len.ensures)) in
    let same = sym (c.as_slice-lowered.ensures.value ∙ back) in
    record {
      sound = c.requires.sound;
      counts = sym c.has_stage_counts.ensures ∙ c.if-not-has_stage_counts.false;
      fit = subst (AreCounts c.args.plant.now) same c.in_ok-lower_each.ensures.serves.counts_fit;
      least = subst (NoneServesLess c.args.plant.now c.args.wait) same c.in_ok-lower_each.ensures.least;
      few_tries = omega (arith, c.in_ok-lower_each.ensures.counted, c.in-Ok.ensures.few_tries);
    }

pub total_of-total-requires-clause-fit : goal.total_of-total-requires-clause-fit
total_of-total-requires-clause-fit c =
    let number = c.in_ok-lower_each.ensures.serves.counts_fit.number in
    let back = given_back c.in_ok-counts.counts.len c.lower_each.new.counts c.in_ok-counts.counts.items (omega (arith, number, c.in_ok-counts.ensures.len, c.len.ensures)) in
    subst (AreCounts c.args.plant.now) (sym (c.as_slice-lowered.ensures.value ∙ back)) c.in_ok-lower_each.ensures.serves.counts_fit

pub returns : goal.returns
returns c =
    let p = c.args.plant.now in
    let some = sym c.has_stage_counts.ensures ∙ c.if-not-has_stage_counts.false in
    let known = c.in_ok-stages.ensures in
    let number = c.in_ok-lower_each.ensures.serves.counts_fit.number in
    let back = given_back c.in_ok-counts.counts.len c.lower_each.new.counts c.in_ok-counts.counts.items (omega (arith, number, c.in_ok-counts.ensures.len, c.len.ensures)) in
    let same = known.counts ∙ c.as_slice-lowered.ensures.value ∙ back in
    let made = c.in_ok-counts.ensures.items_if_clones_equal (λ y same. same) ∙ ap (λ (n : ℕ). replicate n c.in-Ok.start.cards) c.len.ensures in
    let begun = c.as_mut_slice.ensures.value ∙ made in
    record {
      serves = subst (λ (cs : List ℕ). ServeEach p c.args.wait cs) (sym same) c.in_ok-lower_each.ensures.serves;
      least = subst (NoneServesLess p c.args.wait) (sym same) c.in_ok-lower_each.ensures.least;
      in_order = record {
        start = c.in-Ok.start.cards;
        serves = c.in-Ok.ensures.serves;
        least = c.in-Ok.ensures.least;
        lowered =
            subst (λ (from : List ℕ). AreLowered (ServeEach p c.args.wait) from (counts_of c.in_ok-stages.stages)) begun
            (subst (λ (cs : List ℕ). AreLowered (ServeEach p c.args.wait) c.as_mut_slice.result.now cs) (sym same) c.in_ok-lower_each.ensures.in_order);
      };
      below = subst (λ (cs : List ℕ). HaveReasons p c.args.wait cs c.in_ok-stages.stages (length p.stages)) (sym known.counts) known.below;
      named = known.named;
      total = c.total_of-total.ensures ∙ ap sum (sym known.counts);
      few_tries = omega (arith, known.counted, c.in_ok-lower_each.ensures.counted, c.in-Ok.ensures.few_tries);
      halved = λ count serves least k wide.
          let is = least_once (Serves p c.args.wait) count c.in-Ok.start.cards serves least c.in-Ok.ensures.serves c.in-Ok.ensures.least in
          let from = ap (λ (n : ℕ). replicate (length p.stages) n) is ∙ sym begun in
          let enough = c.in_ok-lower_each.ensures.halved k (subst (λ (cs : List ℕ). (i : ℕ) → i < length p.stages → 2 ^ k ≤ get_or cs i 0 - least_at p i + 1) from wide) in
          omega (arith, enough, known.kept);
      refused = tt;
      no_single_count = told_some _ _ some;
      most_serve = c.in-Ok.ensures.most_serve;
    }

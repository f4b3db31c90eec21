use Rattle.std.proofs.Common.{◌≡◌, ℕ, ◌+◌, ◌-◌, ◌*◌, ◌<◌, List, length, get_or, refl, sym, ap, ◌∙◌, subst, arith}
use Rattle.std.proofs.Math.Nat.{mul-suc}
use Rattle.std.proofs.lemmas.List.{get_or-set_other}
use Rattle.std.proofs.lemmas.Result.{err_from_is_err_and}
use Rattle.plant_model.proofs.SoundPlants.{HasSoundSizes-sound}
use Rattle.card_sizing.specs.Counted.{NoneServesLessFrom, ServeEach}
use Rattle.card_sizing.specs.Lowered.{AreLastLowered, none}
use Rattle.card_sizing.proofs.LoweredOnce.{lowered_more}
use Rattle.card_sizing.proofs.StageSearches.{lowered_from}
use Rattle.card_sizing.proofs.lowering.lower_each.Goals as goal

pub loop-done-init : goal.loop-done-init
loop-done-init c = record {
  serves = c.requires.serves;
  least = λ i d from inside less served. absurd (omega (arith, from, inside));
  in_order = none;
  first_stages = λ j low. refl;
  halved = λ k wide. omega arith;
  tries = omega arith;
}

pub lower-requires : goal.lower-requires
lower-requires c = record {
  sound = c.requires.sound;
  counts = c.requires.counts;
  serves = c.loop-done.invariant.serves;
  stage = omega (arith, c.loop-done-test.true, c.len-stages.ensures);
  few_tries = omega (arith, c.loop-done.invariant.tries, c.requires.few_tries, c.len-stages.ensures, (HasSoundSizes-sound c.args.plant.now c.requires.sound).few_stages);
}

pub returns-in_err-lower : goal.returns-in_err-lower
returns-in_err-lower c =
    let p = err_from_is_err_and c.from_residual.result c.from_residual.ensures.1 in
    rw p.1 (record { serves = tt; least = tt; in_order = tt; halved = tt; counted = tt })

pub loop-done-preserved : goal.loop-done-preserved
loop-done-preserved c =
    let p = c.args.plant.now in
    let counts = c.loop-done.counts in
    let i = c.len-stages.result - 1 - c.loop-done.done in
    let n = length p.stages in
    let below : i < n = omega (arith, c.len-stages.ensures) in
    let next : n - c.loop-done.done ≡ i + 1 = omega (arith, c.len-stages.ensures) in
    let now : n - (c.loop-done.done + 1) ≡ i = omega (arith, c.len-stages.ensures) in
    let done = c.in_ok-lower.ensures.least in
    let nowhere = subst (NoneServesLessFrom p c.args.may counts) next c.loop-done.invariant.least in
    let from_i = lowered_from p c.requires.sound c.requires.counts c.args.may counts i done.count c.loop-done.invariant.serves below nowhere done.least in
    let start = c.args.counts.now in
    let place : i ≡ length start - (c.loop-done.done + 1) = omega (arith, c.len-stages.ensures, c.requires.serves.counts_fit.number) in
    let lowered = subst (λ (cs : List ℕ). NoneServesLessFrom p c.args.may cs i) (sym done.lowered) from_i in
    record {
      serves = subst (λ (cs : List ℕ). ServeEach p c.args.may cs) (sym done.lowered) done.least.holds;
      least = λ j d from inside less served. lowered j d (omega (arith, from, now)) inside less served;
      in_order =
          lowered_more (ServeEach p c.args.may) start counts c.lower.new.counts c.loop-done.done i
          c.loop-done.invariant.in_order place done;
      first_stages = λ j low. ap (λ (cs : List ℕ). get_or cs j 0) done.lowered ∙ get_or-set_other counts i j done.count 0 (λ same. absurd (omega (arith, same, low, now))) ∙ c.loop-done.invariant.first_stages j (omega (arith, low));
      halved = λ k wide.
          let at = c.loop-done.invariant.first_stages i (omega (arith, next)) in
          let here = c.in_ok-lower.ensures.halved k (omega (arith, at, wide i below)) in
          let before = c.loop-done.invariant.halved k wide in
          let times : k * (c.loop-done.done + 1) ≡ k * c.loop-done.done + k = ap (λ (n : ℕ). k * n) (omega arith) ∙ mul-suc k c.loop-done.done in
          omega (arith, here, before, times);
      tries = omega (arith, c.in_ok-lower.ensures.counted, c.loop-done.invariant.tries);
    }

pub returns : goal.returns
returns c =
    let done = c.loop-done.invariant in
    record {
      serves = done.serves;
      least = λ i d inside less served. done.least i d (omega (arith, c.loop-done-test.false, c.len-stages.ensures)) inside less served;
      in_order =
          subst (λ (n : ℕ). AreLastLowered (ServeEach c.args.plant.now c.args.may) c.args.counts.now n c.loop-done.counts)
          (omega (arith, c.loop-done.auto.done-end, c.len-stages.ensures, c.requires.serves.counts_fit.number)) done.in_order;
      halved = λ k wide.
          let all : c.loop-done.done ≡ length c.args.plant.now.stages = omega (arith, c.loop-done.auto.done-end, c.len-stages.ensures) in
          let times = ap (λ (n : ℕ). k * n) all in
          omega (arith, done.halved k wide, times);
      counted = omega (arith, done.tries, c.loop-done.auto.done-end, c.len-stages.ensures);
    }

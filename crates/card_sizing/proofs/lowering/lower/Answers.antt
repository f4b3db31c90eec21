use Rattle.std.proofs.Common.{◌≡◌, ℕ, ◌+◌, ◌-◌, ◌/◌, ◌^◌, get_or, refl, sym, subst, arith}
use Rattle.card_sizing.specs.Counted.{IsStageSearch}
use Rattle.card_sizing.proofs.Searches.{try_counted, halving_begins, half_counted, halving_ends}
use Rattle.card_sizing.proofs.StageSearches.{search_begins, search_on, search_down}
use Rattle.card_sizing.proofs.lowering.lower.Goals as goal

pub loop-low-preserved-in-None : goal.loop-low-preserved-in-None
loop-low-preserved-in-None c =
    let at = c.loop-low in
    let middle = at.low + (at.high - at.low) / 2 in
    record {
      search =
          search_down c.args.plant.now c.requires.sound c.requires.counts c.args.may c.args.counts.now c.args.stage c.requires.serves c.requires.stage at.low at.high middle at.invariant.search (omega arith) (omega arith)
          (rw c.in-None.is at c.in_ok-try_counts.ensures.tells);
      tries =
          try_counted (c.args.tries.now + 14) at.tries _ (at.high - at.low) (middle - at.low) c.in_ok-try_counts.ensures.counted
          at.invariant.tries (omega arith) (omega arith);
      halving =
          half_counted c.args.tries.now at.tries _ _ (at.high - at.low) (middle - at.low) c.in_ok-try_counts.ensures.counted
          at.invariant.halving (omega arith);
    }

pub loop-low-preserved : goal.loop-low-preserved
loop-low-preserved c =
    let at = c.loop-low in
    let middle = at.low + (at.high - at.low) / 2 in
    record {
      search =
          search_on c.args.plant.now c.requires.sound c.requires.counts c.args.may c.args.counts.now c.args.stage c.requires.serves c.requires.stage at.low at.high middle c.in-Some.why at.invariant.search (omega arith) (omega arith)
          (rw c.in-Some.is at c.in_ok-try_counts.ensures.tells);
      tries =
          try_counted (c.args.tries.now + 14) at.tries _ (at.high - at.low) (at.high - (middle + 1)) c.in_ok-try_counts.ensures.counted
          at.invariant.tries (omega arith) (omega arith);
      halving =
          half_counted c.args.tries.now at.tries _ _ (at.high - at.low) (at.high - (middle + 1)) c.in_ok-try_counts.ensures.counted
          at.invariant.halving (omega arith);
    }

pub loop-low-init : goal.loop-low-init
loop-low-init c =
    let p = c.args.plant.now in
    let counts = c.args.counts.now in
    let stage = c.args.stage in
    let few : 2 ^ 14 ≡ 16384 = refl in
    let fit = c.requires.serves.counts_fit in
    record {
      search = subst (λ (low : ℕ). IsStageSearch p c.args.may counts stage low (get_or counts stage 0)) (sym c.least_count-low.ensures) (search_begins p c.requires.sound c.requires.counts c.args.may counts stage c.requires.serves c.requires.stage);
      tries = record { left = 14; all = omega arith; halved = omega (arith, few, fit.within stage c.requires.stage) };
      halving = halving_begins c.args.tries.now _ _ (omega (arith, c.least_count-low.ensures));
    }

pub try_counts-requires-clause-fit : goal.try_counts-requires-clause-fit
try_counts-requires-clause-fit c = c.requires.serves.counts_fit

pub try_counts-requires-clause-enough : goal.try_counts-requires-clause-enough
try_counts-requires-clause-enough c = omega (arith, c.loop-low.invariant.search.enough)

pub try_counts-requires-clause-few : goal.try_counts-requires-clause-few
try_counts-requires-clause-few c = omega (arith, c.loop-low.invariant.search.no_more, c.requires.serves.counts_fit.within c.args.stage c.requires.stage, c.loop-low-test.true)

pub returns-clause-least : goal.returns-clause-least
returns-clause-least c =
    let search = c.loop-low.invariant.search in
    record {
      count = c.loop-low.high;
      least = record { holds = search.serves; none = λ d low. search.none d (omega (arith, low, c.loop-low-test.false)) };
      lowered = refl;
    }

pub returns-clause-counted : goal.returns-clause-counted
returns-clause-counted c = omega (arith, c.loop-low.invariant.tries.all)

pub returns-clause-halved : goal.returns-clause-halved
returns-clause-halved c =
    halving_ends _ _ _ _ c.loop-low.invariant.halving (omega (arith, c.loop-low-test.false))

use Rattle.std.proofs.Common.{◌≡◌, ◌+◌, ◌-◌, ◌/◌, ◌^◌, refl, arith, subst}
use Rattle.card_sizing.proofs.Searches.{search_past, try_counted}
use Rattle.card_sizing.proofs.HighestCounts.{highest_within, lowest_highest}
use Rattle.card_sizing.specs.Sizing.{IsBelow}
use Rattle.card_sizing.proofs.least.halve.Goals as goal

pub loop-low-init : goal.loop-low-init
loop-low-init c =
    record {
      search = record {
        ordered = omega (arith, lowest_highest c.args.plant.now c.requires.sound, c.requires.start, c.requires.end);
        enough = omega (arith, c.requires.start);
        none = λ d low serves. absurd (omega (arith, serves.enough, low, c.requires.start));
        reason = c.requires.start;
        serves = c.requires.serves;
      };
      tries = λ k small. record { left = k; all = omega (arith, c.requires.tries); halved = small };
    }

pub loop-low-preserved-in-None : goal.loop-low-preserved-in-None
loop-low-preserved-in-None c =
    let low = c.loop-low.low in
    let high = c.loop-low.high in
    let middle = low + (high - low) / 2 in
    let search = c.loop-low.invariant.search in
    record {
      search = record {
        ordered = omega arith;
        enough = search.enough;
        none = search.none;
        reason = search.reason;
        serves = record {
          enough = omega (arith, search.enough);
          within = omega (arith, search.serves.within);
          in_time = rw c.in-None.is at c.in_ok-try_count.ensures.tells;
        };
      };
      tries = λ k small.
          try_counted (1 + k) c.loop-low.tries _ (high - low) (middle - low) c.in_ok-try_count.ensures.counted
          (c.loop-low.invariant.tries k small) (omega arith) (omega arith);
    }

pub loop-low-preserved : goal.loop-low-preserved
loop-low-preserved c =
    let low = c.loop-low.low in
    let high = c.loop-low.high in
    let middle = low + (high - low) / 2 in
    record {
      search =
          search_past c.args.plant.now c.requires.sound c.requires.single c.args.may low high middle c.loop-low.below c.in-Some.why c.loop-low.invariant.search (omega arith) (omega arith)
          (rw c.in-Some.is at c.in_ok-try_count.ensures.tells);
      tries = λ k small.
          try_counted (1 + k) c.loop-low.tries _ (high - low) (high - (middle + 1)) c.in_ok-try_count.ensures.counted
          (c.loop-low.invariant.tries k small) (omega arith) (omega arith);
    }

pub returns-clause-least : goal.returns-clause-least
returns-clause-least c = λ d below. c.loop-low.invariant.search.none d (omega arith)

pub returns-clause-few_tries : goal.returns-clause-few_tries
returns-clause-few_tries c =
    let all : 2 ^ 14 ≡ 16384 = refl in
    let tries = c.loop-low.invariant.tries 14 (omega (arith, all, highest_within c.args.plant.now, c.requires.end)) in
    omega (arith, tries.all)

pub returns-clause-halved : goal.returns-clause-halved
returns-clause-halved c =
    λ k small.
    let tries = c.loop-low.invariant.tries k (omega (arith, small, c.requires.start, c.requires.end)) in
    omega (arith, tries.all)

pub try_count-requires-clause-few_tries : goal.try_count-requires-clause-few_tries
try_count-requires-clause-few_tries c =
    let all : 2 ^ 14 ≡ 16384 = refl in
    let tries = c.loop-low.invariant.tries 14 (omega (arith, all, highest_within c.args.plant.now, c.requires.end)) in
    omega (arith, tries.all)

pub returns-clause-serves : goal.returns-clause-serves
returns-clause-serves c = c.loop-low.invariant.search.serves

pub returns-clause-below : goal.returns-clause-below
returns-clause-below c =
    let met : c.loop-low.low ≡ c.loop-low.high = omega (arith, c.loop-low.invariant.search.ordered) in
    subst (λ n. IsBelow c.args.plant.now c.args.may n c.loop-low.below) met c.loop-low.invariant.search.reason

use Rattle.std.proofs.Common.{◌-◌, ◌<◌, ◌≤◌, ◌∙◌, get_or, arith}
use Rattle.card_sizing.specs.Counted.{least_at}
use Rattle.card_sizing.proofs.StageSearches.{fit_with, reason_at}
use Rattle.card_sizing.proofs.lowering.reason_of.Goals as goal

pub try_counts-requires-clause-enough : goal.try_counts-requires-clause-enough
try_counts-requires-clause-enough c = omega (arith, c.if-count-least_count.false, c.least_count.ensures, c.requires.fit.enough c.args.stage c.requires.stage)

pub try_counts-requires-clause-few : goal.try_counts-requires-clause-few
try_counts-requires-clause-few c = omega (arith, c.requires.fit.within c.args.stage c.requires.stage)

pub returns-then-count-least_count-clause-below : goal.returns-then-count-least_count-clause-below
returns-then-count-least_count-clause-below c = c.if-count-least_count.true ∙ c.least_count.ensures

pub unreachable-requires : goal.unreachable-requires
unreachable-requires c =
    let p = c.args.plant.now in
    let counts = c.args.counts.now in
    let stage = c.args.stage in
    let fit = c.requires.fit in
    let less = get_or counts stage 0 - 1 in
    let enough : least_at p stage ≤ less = omega (arith, c.if-count-least_count.false, c.least_count.ensures, fit.enough stage c.requires.stage) in
    let below : less < get_or counts stage 0 = omega (arith, c.if-count-least_count.false, c.least_count.ensures, fit.enough stage c.requires.stage) in
    c.requires.least stage less c.requires.stage below (record {
      counts_fit = fit_with p c.requires.sound c.requires.counts counts stage less fit c.requires.stage enough (omega (arith, fit.within stage c.requires.stage));
      in_time = rw c.in-None.is at c.in_ok-below.ensures.tells;
    })

pub returns-clause-below : goal.returns-clause-below
returns-clause-below c =
    let p = c.args.plant.now in
    let counts = c.args.counts.now in
    let stage = c.args.stage in
    let more : least_at p stage < get_or counts stage 0 = omega (arith, c.if-count-least_count.false, c.least_count.ensures, c.requires.fit.enough stage c.requires.stage) in
    reason_at p c.requires.sound c.requires.counts c.args.may counts stage c.in-Some.below more (rw c.in-Some.is at c.in_ok-below.ensures.tells)

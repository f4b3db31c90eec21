use Rattle.std.proofs.Common.{ℕ, sym, ◌∙◌, subst, arith}
use Rattle.std.proofs.lemmas.Result.{err_from_is_err_and}
use Rattle.card_sizing.specs.Sized.{sized_plant, highest}
use Rattle.card_sizing.specs.Serving.{IsLate}
use Rattle.line_base.specs.declared.limits.TheConstants.{MAX_CARDS}
use Rattle.card_sizing.proofs.EnoughCards.{most_live, serves_more}
use Rattle.card_sizing.proofs.Searches.{fails_by_job}
use Rattle.card_sizing.proofs.Refusals.{told_none, told_some, told_late, told_memory}
use Rattle.card_sizing.proofs.HighestCounts.{highest_within, lowest_highest, highest_live, highest_late}
use Rattle.card_sizing.proofs.least.least_cards.Goals as goal

pub try_count-requires-clause-enough : goal.try_count-requires-clause-enough
try_count-requires-clause-enough c =
    omega (arith, lowest_highest c.args.plant.now c.requires.sound, c.highest_count-highest.ensures)

pub try_count-requires-clause-few : goal.try_count-requires-clause-few
try_count-requires-clause-few c = omega (arith, highest_within c.args.plant.now, c.highest_count-highest.ensures)

pub halve-requires-clause-serves : goal.halve-requires-clause-serves
halve-requires-clause-serves c = record {
  enough = omega (arith, lowest_highest c.args.plant.now c.requires.sound, c.highest_count-highest.ensures);
  within = omega (arith, highest_within c.args.plant.now, c.highest_count-highest.ensures);
  in_time = rw c.in-None.is at c.in_ok-try_count.ensures.tells;
}

pub unreachable-requires : goal.unreachable-requires
unreachable-requires c =
    let p = c.args.plant.now in
    let single = sym c.has_single_count.ensures ∙ c.if-not-has_single_count.false in
    let fails = rw c.in-Some.is at c.in_ok-try_count.ensures.tells in
    let live = highest_live p c.requires.sound single (most_live p c.requires.sound single c.requires.live) in
    let late = fails_by_job (sized_plant p (highest p)) c.args.wait c.in-Some.below (rw c.highest_count-highest.ensures at fails) live in
    c.in_default.not-Job late.0 late.1 late.2

pub try_count-requires-clause-single : goal.try_count-requires-clause-single
try_count-requires-clause-single c = sym c.has_single_count.ensures ∙ c.if-not-has_single_count.false

pub halve-requires-clause-single : goal.halve-requires-clause-single
halve-requires-clause-single c = sym c.has_single_count.ensures ∙ c.if-not-has_single_count.false

pub returns-then-not-has_single_count : goal.returns-then-not-has_single_count
returns-then-not-has_single_count c =
    let none = sym c.has_single_count.ensures ∙ c.if-not-has_single_count.true in
    record { serves = tt; least = tt; below = tt; few_tries = tt; halved = tt; refused = none; no_single_count = told_none _ none; most_serve = tt }

pub returns-in_err-lowest : goal.returns-in_err-lowest
returns-in_err-lowest c =
    let single = sym c.has_single_count.ensures ∙ c.if-not-has_single_count.false in
    let p = err_from_is_err_and c.from_residual.result c.from_residual.ensures.1 in
    rw (p.1, p.2) (record { serves = tt; least = tt; below = tt; few_tries = tt; halved = tt; refused = tt; no_single_count = told_memory _ single; most_serve = tt })

pub returns-in_err-try_count : goal.returns-in_err-try_count
returns-in_err-try_count c =
    let single = sym c.has_single_count.ensures ∙ c.if-not-has_single_count.false in
    let p = err_from_is_err_and c.from_residual-in_err-try_count.result c.from_residual-in_err-try_count.ensures.1 in
    rw (p.1, p.2) (record { serves = tt; least = tt; below = tt; few_tries = tt; halved = tt; refused = tt; no_single_count = told_memory _ single; most_serve = tt })

pub returns-in_err-halve-in-None : goal.returns-in_err-halve-in-None
returns-in_err-halve-in-None c =
    let single = sym c.has_single_count.ensures ∙ c.if-not-has_single_count.false in
    let p = err_from_is_err_and c.from_residual-in_err-halve-in-None.result c.from_residual-in_err-halve-in-None.ensures.1 in
    rw (p.1, p.2) (record { serves = tt; least = tt; below = tt; few_tries = tt; halved = tt; refused = tt; no_single_count = told_memory _ single; most_serve = tt })

pub returns-in_ok-halve-in-None : goal.returns-in_ok-halve-in-None
returns-in_ok-halve-in-None c =
    let single = sym c.has_single_count.ensures ∙ c.if-not-has_single_count.false in
    let found = c.in_ok-halve-in-None.field-0 in
    let known = c.in_ok-halve-in-None.ensures in
    let most = serves_more c.args.plant.now c.requires.sound single c.args.wait found.cards MAX_CARDS known.serves known.serves.within (omega arith) in
    record { serves = known.serves; least = known.least; below = known.below; few_tries = known.few_tries; halved = known.halved; refused = tt; no_single_count = told_some found _ single; most_serve = most }

pub returns-in-Job : goal.returns-in-Job
returns-in-Job c =
    let p = c.args.plant.now in
    let single = sym c.has_single_count.ensures ∙ c.if-not-has_single_count.false in
    let fails = rw c.in-Some.is at c.in_ok-try_count.ensures.tells in
    let late = rw c.in-Job.is at fails in
    let at_highest = subst (λ (h : ℕ). IsLate (sized_plant p h) c.args.wait c.in-Job.job c.in-Job.wait) c.highest_count-highest.ensures late in
    let refused = highest_late p c.requires.sound single c.args.wait c.in-Job.job c.in-Job.wait at_highest in
    record { serves = tt; least = tt; below = tt; few_tries = tt; halved = tt; refused = (single, refused); no_single_count = told_late c.in-Job.job c.in-Job.wait _ single; most_serve = tt }

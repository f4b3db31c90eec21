use Rattle.std.proofs.Common.{◌-◌, get_or}
use Rattle.std.proofs.lemmas.Bool.{le-ltb, lt-ltb}
use Rattle.plant_check.proofs.RefusedTests.{none_refused, none_added, refusal_added}
use Rattle.plant_check.proofs.refusals.whole.find_fall.Goals as goal

pub returns-then-dates-saturating_sub : goal.returns-then-dates-saturating_sub
returns-then-dates-saturating_sub c =
    none_added _ _
    (none_refused _ _ (le-ltb c.args.date (get_or c.args.dates.now (c.args.k - 1) 0) (rw c.saturating_sub.ensures at c.if-dates-saturating_sub.true)))

pub returns : goal.returns
returns c =
    refusal_added _ _ _ _ _
    (lt-ltb c.args.date (get_or c.args.dates.now (c.args.k - 1) 0) (rw c.saturating_sub.ensures at c.if-dates-saturating_sub.false))
    c.refuse.ensures

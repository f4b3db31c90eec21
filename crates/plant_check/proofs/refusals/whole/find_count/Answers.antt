use Rattle.std.proofs.Common.{length, refl, sym, ◌∙◌}
use Rattle.std.proofs.lemmas.Bool.{eq-eqb}
use Rattle.plant_check.proofs.RefusedTests.{none_refused, none_added}
use Rattle.plant_check.proofs.refusals.whole.find_count.Goals as goal

pub returns-then-len-jobs : goal.returns-then-len-jobs
returns-then-len-jobs c =
    none_added _ _
    (rw c.in-Each.is
    (none_refused _ _ (rw (eq-eqb (length c.in-Each.times) c.args.jobs (sym c.len.ensures ∙ c.if-len-jobs.true)) refl)))

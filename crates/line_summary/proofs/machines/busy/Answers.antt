use Rattle.std.proofs.Common.{◌≡◌, ℕ, zero, suc, ◌+◌, ◌-◌, ◌*◌, List, length, get_or, sum, sym, ap, ◌∙◌, subst, arith}
use Rattle.std.specs.List.{sum_by, range_with_len}
use Rattle.line_base.specs.declared.times.Times.{Times}
use Rattle.line_base.specs.declared.times.Times.TheVariants.{Each}
use Rattle.line_base.specs.Times.{time_at}
use Rattle.plant_model.specs.Sound.{AreSoundTimes}
use Rattle.line_stats.proofs.DateSums.{sum-row}
use Rattle.line_summary.proofs.OverTime.{sum-jobs-more}
use Rattle.line_summary.proofs.machines.busy.Goals as goal

-- one time for each job
sum-fixed : (time jobs : ℕ) → sum_by (λ n. time) (range_with_len 1 jobs) ≡ time * jobs
sum-fixed time zero = omega arith
sum-fixed time (suc jobs) = sum-jobs-more (λ n. time) jobs ∙ ap (λ n. n + time) (sum-fixed time jobs) ∙ one_more
  where
    one_more : time * jobs + time ≡ time * suc jobs
    one_more = omega arith

-- a time of its own for each
sum-each : (times : List ℕ) (jobs : ℕ) → length times ≡ jobs → sum times ≡ sum_by (λ n. get_or times (n - 1) 0) (range_with_len 1 jobs)
sum-each times jobs long =
    sum-row (λ n. get_or times (n - 1) 0) jobs times long (λ k below. let e : k ≡ k + 1 - 1 = omega arith in ap (λ n. get_or times n 0) e)

pub returns-in-Fixed : goal.returns-in-Fixed
returns-in-Fixed c =
    ap (λ n. c.in-Fixed.time * n) c.from.ensures
    ∙ sym (sum-fixed c.in-Fixed.time c.args.jobs)
    ∙ ap (λ (ts : Times). sum_by (time_at ts) (range_with_len 1 c.args.jobs)) (sym c.in-Fixed.is)

pub returns-in-Each : goal.returns-in-Each
returns-in-Each c =
    let sound : AreSoundTimes c.args.jobs (Each c.in-Each.times) = subst (AreSoundTimes c.args.jobs) c.in-Each.is c.requires.times in
    c.total.ensures
    ∙ ap sum c.as_slice.ensures
    ∙ sum-each c.in-Each.times c.args.jobs sound.0
    ∙ ap (λ (ts : Times). sum_by (time_at ts) (range_with_len 1 c.args.jobs)) (sym c.in-Each.is)

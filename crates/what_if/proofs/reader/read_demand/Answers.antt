use Rattle.std.proofs.Common.{◌≡◌, ap, subst, ◌∙◌, arith}
use Rattle.std.specs.Prelude.{Some, decimal, codes}
use Rattle.what_if.specs.declared.edit.Edit.{Edit}
use Rattle.what_if.specs.declared.edit.Edit.TheVariants.{Demand}
use Rattle.what_if.specs.Edits.{HasNoSpace, before_space}
use Rattle.what_if.proofs.WordsOfEdits.{has_space, none-holds, demand-writes, demand-parts, nothing-is, some-is}
use Rattle.what_if.proofs.reader.read_demand.Goals as goal

pub returns-in_err-job-clause-tells : goal.returns-in_err-job-clause-tells
returns-in_err-job-clause-tells c edit writes =
    demand-writes c.args.graph.now c.args.text.now edit (λ e. c.from_residual.result ≡ Some e) writes (λ n date valid is.
    absurd (has_space (decimal n) (decimal date) (subst HasNoSpace is c.in_err-job.ensures)))

pub returns-in_err-job-2-clause-tells : goal.returns-in_err-job-2-clause-tells
returns-in_err-job-2-clause-tells c edit writes =
    demand-parts c.args.graph.now c.args.text.now c.in_ok-job.job.now c.in_ok-job.date.now edit (λ e. c.from_residual-in_err-job-2.result ≡ Some e) c.in_ok-job.ensures (omega (arith, c.in_err-job-2.ensures.few)) writes (λ n date valid job_is last_is.
    absurd (nothing-is n (c.in_err-job-2.ensures.tells n valid.from_one valid.job job_is)))

pub returns-in_err-date-clause-tells : goal.returns-in_err-date-clause-tells
returns-in_err-date-clause-tells c edit writes =
    demand-parts c.args.graph.now c.args.text.now c.in_ok-job.job.now c.in_ok-job.date.now edit (λ e. c.from_residual-in_err-date.result ≡ Some e) c.in_ok-job.ensures (omega (arith, c.in_ok-job-2.ensures.few)) writes (λ n date valid job_is last_is.
    absurd (nothing-is date (c.in_err-date.ensures.tells date valid.early last_is)))

pub returns-clause-tells : goal.returns-clause-tells
returns-clause-tells c edit writes =
    let job = c.in_ok-job-2.job in
    let last = c.in_ok-date.date in
    let Same : Edit → Type 0 = λ e. Some (Demand job last) ≡ Some e in
    demand-parts c.args.graph.now c.args.text.now c.in_ok-job.job.now c.in_ok-job.date.now edit Same c.in_ok-job.ensures (omega (arith, c.in_ok-job-2.ensures.few)) writes (λ n date valid job_is last_is.
    let same_job = some-is job n (c.in_ok-job-2.ensures.tells n valid.from_one valid.job job_is) in
    let same_date = some-is last date (c.in_ok-date.ensures.tells date valid.early last_is) in
    ap (λ j. Some (Demand j last)) same_job ∙ ap (λ x. Some (Demand n x)) same_date)

pub returns-in_err-job-clause-read : goal.returns-in_err-job-clause-read
returns-in_err-job-clause-read c = none-holds _ c.from_residual.result c.from_residual.ensures

pub returns-in_err-job-2-clause-read : goal.returns-in_err-job-2-clause-read
returns-in_err-job-2-clause-read c =
    none-holds _ c.from_residual-in_err-job-2.result c.from_residual-in_err-job-2.ensures

pub returns-in_err-date-clause-read : goal.returns-in_err-date-clause-read
returns-in_err-date-clause-read c =
    none-holds _ c.from_residual-in_err-date.result c.from_residual-in_err-date.ensures

pub returns-clause-read : goal.returns-clause-read
returns-clause-read c =
    let job = c.in_ok-job-2.ensures in
    let date = c.in_ok-date.ensures in
    let rest = ap (λ w. before_space w c.in_ok-job.date.now) job.read ∙ ap (before_space (decimal c.in_ok-job-2.job)) date.read in
    record {
      valid = record { from_one = job.from_one; job = job.job; early = date.small };
      text_is = ap (before_space (codes "demand")) (c.in_ok-job.ensures.whole ∙ rest);
    }

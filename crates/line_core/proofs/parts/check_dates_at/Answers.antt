use Rattle.std.proofs.Common.{ap, length, arith}
use Rattle.line_base.specs.Roomy.{dates_of}
use Rattle.line_core.specs.Parts.{list_at, wrong_date, wrong_dates_at}
use Rattle.line_core.proofs.FirstRefusals.{none_below_0, none_below_next, none_below_all, handed_on_at}
use Rattle.line_core.proofs.parts.check_dates_at.Goals as goal

pub loop-job-init : goal.loop-job-init
loop-job-init c = none_below_0 (length (list_at (dates_of c.args.logs.now) c.args.station)) (wrong_date c.args.graph.now (dates_of c.args.logs.now) c.args.station)

pub overflow_cast-job-end : goal.overflow_cast-job-end
overflow_cast-job-end c = omega (arith, ap length c.dates_at-dates.ensures, c.requires.few, c.requires.limits.few_jobs)

pub returns-in_err-check_date : goal.returns-in_err-check_date
unfolding wrong_dates_at
returns-in_err-check_date c =
    handed_on_at (length (list_at (dates_of c.args.logs.now) c.args.station)) (wrong_date c.args.graph.now (dates_of c.args.logs.now) c.args.station) c.loop-job.job c.from_residual.result c.from_residual.ensures.1 (omega (arith, ap length c.dates_at-dates.ensures, c.loop-job-test.true)) c.in_err-check_date.ensures c.loop-job.invariant

pub loop-job-preserved : goal.loop-job-preserved
loop-job-preserved c =
    none_below_next (length (list_at (dates_of c.args.logs.now) c.args.station)) (wrong_date c.args.graph.now (dates_of c.args.logs.now) c.args.station) c.loop-job.job (omega (arith, ap length c.dates_at-dates.ensures, c.loop-job-test.true)) c.in_ok-check_date.ensures c.loop-job.invariant

pub returns : goal.returns
unfolding wrong_dates_at
returns c = none_below_all (length (list_at (dates_of c.args.logs.now) c.args.station)) (wrong_date c.args.graph.now (dates_of c.args.logs.now) c.args.station) c.loop-job.job (omega (arith, ap length c.dates_at-dates.ensures, c.loop-job-test.false)) c.loop-job.invariant

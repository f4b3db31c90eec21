use Rattle.line_chart.proofs.OneBar.{bars-are-of-jobs, each-job-has-one-bar}
use Rattle.line_chart.proofs.laws.each_job_has_one_bar.Goals as goal

pub returns-clause-of_jobs : goal.returns-clause-of_jobs
returns-clause-of_jobs c = bars-are-of-jobs

pub returns-clause-one_each : goal.returns-clause-one_each
returns-clause-one_each c = each-job-has-one-bar

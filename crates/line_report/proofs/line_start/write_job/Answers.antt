use Rattle.std.proofs.Common.{arith}
use Rattle.line_report.proofs.Starts.{few_job_digits}
use Rattle.line_report.proofs.line_start.write_job.Goals as goal

pub write_number_and-requires : goal.write_number_and-requires
write_number_and-requires c = omega (arith, few_job_digits c.args.job c.requires.job)

pub returns-clause-end : goal.returns-clause-end
returns-clause-end c = omega (arith, few_job_digits c.args.job c.requires.job)

use Rattle.std.proofs.Common.{arith}
use Rattle.line_report.proofs.Starts.{few_digits}
use Rattle.line_report.proofs.line_end.write_last_number.Goals as goal

pub write_number_and-requires : goal.write_number_and-requires
write_number_and-requires c = omega (arith, few_digits c.args.date (omega arith))

pub returns-clause-end : goal.returns-clause-end
returns-clause-end c = omega (arith, few_digits c.args.date (omega arith))

use Rattle.line_report.proofs.Starts.{few_digits}
use Rattle.std.proofs.Common.{arith}
use Rattle.line_report.proofs.line_end.write_number.Goals as goal

pub write_decimal-requires : goal.write_decimal-requires
write_decimal-requires c = omega (arith, few_digits c.args.n (omega arith))

pub returns-clause-end : goal.returns-clause-end
returns-clause-end c = omega (arith, few_digits c.args.n (omega arith))

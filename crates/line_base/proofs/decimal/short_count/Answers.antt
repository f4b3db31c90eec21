use Rattle.std.proofs.Common.{sym, arith}
use Rattle.line_base.proofs.DecimalLengths.{length_one, length_two, length_three, length_four}
use Rattle.line_base.proofs.decimal.short_count.Goals as goal

pub returns-in-0-to-9 : goal.returns-in-0-to-9
returns-in-0-to-9 c = sym (length_one c.args.n (omega arith))

pub returns-in-10-to-99 : goal.returns-in-10-to-99
returns-in-10-to-99 c = omega (arith, length_two c.args.n (omega arith) (omega arith))

pub returns-in-100-to-999 : goal.returns-in-100-to-999
returns-in-100-to-999 c = omega (arith, length_three c.args.n (omega arith) (omega arith))

pub returns-in_default : goal.returns-in_default
returns-in_default c = omega (arith, length_four c.args.n (omega arith) (omega arith))

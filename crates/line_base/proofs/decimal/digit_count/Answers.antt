use Rattle.std.proofs.Common.{arith}
use Rattle.std.proofs.lemmas.Fmt.{length-decimal-le}
use Rattle.line_base.proofs.DecimalLengths.{length_four_more}
use Rattle.line_base.proofs.decimal.digit_count.Goals as goal

pub loop-left-preserved : goal.loop-left-preserved
loop-left-preserved c = omega (arith, length_four_more c.loop-left.left (omega arith) (omega arith))

pub overflow_add-count : goal.overflow_add-count
overflow_add-count c = omega (arith, length_four_more c.loop-left.left (omega arith) (omega arith), length-decimal-le 20 c.args.n (omega arith) (omega arith) (omega arith))

pub returns-clause-few : goal.returns-clause-few
returns-clause-few c = omega (arith, length-decimal-le 20 c.args.n (omega arith) (omega arith) (omega arith))

pub overflow_add-result : goal.overflow_add-result
overflow_add-result c = omega (arith, length-decimal-le 20 c.args.n (omega arith) (omega arith) (omega arith))

use Rattle.std.proofs.Common.{arith}
use Rattle.std.proofs.lemmas.Fmt.{length-decimal-le}
use Rattle.outside_io.proofs.piece_buffer.write_number.Goals as goal

pub write_decimal-requires : goal.write_decimal-requires
write_decimal-requires c = omega (arith, length-decimal-le 20 c.args.n (omega arith) (omega arith) (omega arith))

pub returns-clause-short : goal.returns-clause-short
returns-clause-short c = omega (arith, length-decimal-le 20 c.args.n (omega arith) (omega arith) (omega arith))

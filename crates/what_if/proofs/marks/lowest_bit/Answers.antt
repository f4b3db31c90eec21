use Rattle.std.proofs.Common.{arith}
use Rattle.std.specs.Int.{w64}
use Rattle.std.proofs.lemmas.Nat.Bits.{bit_at-trailing_zeros}
use Rattle.what_if.proofs.marks.lowest_bit.Goals as goal

pub returns : goal.returns
returns c =
    let at = bit_at-trailing_zeros w64 c.args.word c.requires (omega arith) in
    record { within = at.0; set = at.1; none_below = at.2 }

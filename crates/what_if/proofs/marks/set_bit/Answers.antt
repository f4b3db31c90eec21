use Rattle.std.proofs.Common.{◌*◌, ◌%◌, ◌^◌, true, ap, eqb, arith}
use Rattle.std.specs.Prelude.{bit_or}
use Rattle.std.specs.Int.{w64}
use Rattle.std.proofs.lemmas.Nat.Bits.{bit_at_set_same, bit_at_set_other}
use Rattle.what_if.proofs.Bits.{bits_of-write}
use Rattle.what_if.proofs.marks.set_bit.Goals as goal

pub returns-clause-bits : goal.returns-clause-bits
returns-clause-bits c =
    let n = c.index-word.result.now in
    let bit = c.args.k % 64 in
    bits_of-write c.args.words.now.items c.args.k n (bit_or n (1 * 2 ^ bit % 2 ^ 64)) true c.requires c.index-word.ensures
    (ap (λ b. eqb b 1) (bit_at_set_same w64 n bit (omega arith)))
    (λ i low other. bit_at_set_other w64 n bit (omega arith) i other)

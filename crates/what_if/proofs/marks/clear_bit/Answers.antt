use Rattle.std.proofs.Common.{◌*◌, ◌%◌, ◌^◌, false, ap, eqb, arith}
use Rattle.std.specs.Prelude.{bit_and}
use Rattle.std.specs.Int.{bit_not, w64}
use Rattle.std.proofs.lemmas.Nat.Bits.{bit_at_clear_same, bit_at_clear_other}
use Rattle.what_if.proofs.Bits.{bits_of-write}
use Rattle.what_if.proofs.marks.clear_bit.Goals as goal

pub returns-clause-bits : goal.returns-clause-bits
returns-clause-bits c =
    let n = c.index-word.result.now in
    let bit = c.args.k % 64 in
    bits_of-write c.args.words.now.items c.args.k n (bit_and n (bit_not w64 (1 * 2 ^ bit % 2 ^ 64))) false c.requires c.index-word.ensures
    (ap (λ b. eqb b 1) (bit_at_clear_same w64 n bit (omega arith)))
    (bit_at_clear_other w64 n bit (omega arith))

use Rattle.std.proofs.Common.{◌-◌, ◌^◌, ap, ◌∙◌, arith}
use Rattle.std.specs.Prelude.{bit_and}
use Rattle.std.specs.Int.{bit_at}
use Rattle.std.proofs.lemmas.Nat.Bits.{bit_at_and, bit_at-lt, ones_shl, bit_at_mask_inside, bit_at_mask_below}
use Rattle.what_if.proofs.marks.bits_from.Goals as goal

pub returns-clause-kept : goal.returns-clause-kept
returns-clause-kept c i from low =
    let mask = ones_shl 64 c.args.from (omega arith) in
    ap (λ m. bit_at (bit_and c.args.word m) i) mask
    ∙ bit_at_and c.args.word (2 ^ 64 - 2 ^ c.args.from) i
    ∙ omega (arith, bit_at_mask_inside c.args.from 64 i from low, bit_at-lt c.args.word i)

pub returns-clause-cleared : goal.returns-clause-cleared
returns-clause-cleared c i low =
    let mask = ones_shl 64 c.args.from (omega arith) in
    ap (λ m. bit_at (bit_and c.args.word m) i) mask
    ∙ bit_at_and c.args.word (2 ^ 64 - 2 ^ c.args.from) i
    ∙ omega (arith, bit_at_mask_below c.args.from 64 i low)

use Rattle.std.proofs.Common.{◌%◌, ◌/◌, sym, ap, ◌∙◌, eqb, get_or}
use Rattle.std.proofs.lemmas.Nat.Bits.{shr_and_one}
use Rattle.what_if.proofs.Bits.{is_at-bits}
use Rattle.what_if.proofs.marks.has_bit.Goals as goal

pub returns : goal.returns
returns c =
    ap (λ b. eqb b 1) (shr_and_one (get_or c.args.words.now (c.args.k / 64) 0) (c.args.k % 64))
    ∙ sym (is_at-bits c.args.words.now c.args.k c.requires)

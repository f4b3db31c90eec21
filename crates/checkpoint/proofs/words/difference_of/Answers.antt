use Rattle.std.proofs.Common.{◌≡◌, Some, sym, ap, ◌∙◌, arith}
use Rattle.std.proofs.lemmas.Fmt.{decimal_injective}
use Rattle.checkpoint.proofs.words.difference_of.Goals as goal

pub returns-in-Some-clause-tells : goal.returns-in-Some-clause-tells
returns-in-Some-clause-tells c n small is =
    let read = c.in-Some.ensures in
    ap Some (decimal_injective c.in-Some.number n (omega (arith, read.small)) (omega (arith, small)) (sym read.read ∙ is))

pub returns-in-Some-2-clause-tells : goal.returns-in-Some-2-clause-tells
returns-in-Some-2-clause-tells c n small is =
    let read = c.in-Some.ensures in
    let same : c.in-Some.number ≡ n = decimal_injective c.in-Some.number n (omega (arith, read.small)) (omega (arith, small)) (sym read.read ∙ is) in
    absurd (omega (arith, same, small))

use Rattle.std.proofs.Common.{◌≡◌, ℕ, true, ◌∙◌, arith, subst, sym, ap, Some, List}
use Rattle.line_base.specs.Text.{starts_plainly}
use Rattle.line_base.proofs.Numbers.{starts_plainly-decimal, IsUtf8-decimal, reads-decimal, decimal-read_plus}
use Rattle.line_base.proofs.number.number_of.Goals as goal

pub returns-then-not-starts_plainly-clause-tells :
    goal.returns-then-not-starts_plainly-clause-tells
returns-then-not-starts_plainly-clause-tells c n small is =
    let plain = starts_plainly-decimal n (omega arith) in cc (plain, c.starts_plainly.ensures, c.if-not-starts_plainly.true)

pub returns-in_default-clause-tells : goal.returns-in_default-clause-tells
returns-in_default-clause-tells c n small is =
    absurd (c.in_default.ensures.cases.0 (IsUtf8-decimal c.args.text.now n (omega arith) is))

pub returns-in_default-parse-clause-tells : goal.returns-in_default-parse-clause-tells
returns-in_default-parse-clause-tells c n small is =
    let read = reads-decimal c.in-Ok.text.now n (omega arith) (c.in-Ok.ensures.cases.0 ∙ is) in
    absurd (c.in_default-parse.ensures.value.0 (read.0, omega (arith, read.1)))

pub returns-then-number-most-clause-read : goal.returns-then-number-most-clause-read
returns-then-number-most-clause-read c =
    let plain = subst (λ (t : List ℕ). starts_plainly t ≡ true) (sym c.in-Ok.ensures.cases.0) (sym (c.if-not-starts_plainly.ensures)) in
    let value = c.in-Ok-parse.ensures.value.0 in
    sym c.in-Ok.ensures.cases.0 ∙ decimal-read_plus c.in-Ok.text.now c.in-Ok-parse.number plain value.0.0 value.0.1 value.1

pub returns-else-number-most-clause-tells : goal.returns-else-number-most-clause-tells
returns-else-number-most-clause-tells c n small is =
    let read = reads-decimal c.in-Ok.text.now n (omega arith) (c.in-Ok.ensures.cases.0 ∙ is) in
    absurd (omega (arith, read.1, c.in-Ok-parse.ensures.value.0.1))

pub returns-then-number-most-clause-tells : goal.returns-then-number-most-clause-tells
returns-then-number-most-clause-tells c n small is =
    let read = reads-decimal c.in-Ok.text.now n (omega arith) (c.in-Ok.ensures.cases.0 ∙ is) in
    ap Some (c.in-Ok-parse.ensures.value.0.1 ∙ read.1)

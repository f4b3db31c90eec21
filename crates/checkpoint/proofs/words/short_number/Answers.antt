use Rattle.std.proofs.Common.{◌*◌, ◌+◌, ap, ◌∙◌, sym, arith}
use Rattle.std.specs.Prelude.{decimal}
use Rattle.checkpoint.proofs.ShortNumbers.{one_digit, two_digits}
use Rattle.checkpoint.proofs.words.short_number.Goals as goal

pub returns-in-48-to-57-clause-read : goal.returns-in-48-to-57-clause-read
returns-in-48-to-57-clause-read c =
    one_digit c.args.text.now (omega arith) (omega arith) (omega arith) ∙ ap decimal (sym c.from.ensures)

pub returns-in-49-to-57-clause-read : goal.returns-in-49-to-57-clause-read
returns-in-49-to-57-clause-read c =
    two_digits c.args.text.now (omega arith) (omega arith) (omega arith) (omega arith) (omega arith)
    ∙ (λ i. decimal (sym c.from-in-49-to-57.ensures i * 10 + sym c.from-in-49-to-57-2.ensures i))

use Rattle.std.proofs.Common.{◌∙◌, sym, arith}
use Rattle.command_line.proofs.NumberWords.{number_in-within, number_in-below, number_in-other}
use Rattle.command_line.proofs.number.number_in.Goals as goal

pub returns-in_err-number-clause-read : goal.returns-in_err-number-clause-read
returns-in_err-number-clause-read c =
    c.from_residual.ensures
    ∙ number_in-other c.args.least c.args.most c.args.word.now
    (λ n small is. let known = c.in_err-number.ensures in let absent = known.tells n small (c.as_bytes.ensures.value ∙ is) in cc)

pub returns-then-number-least-clause-read : goal.returns-then-number-least-clause-read
returns-then-number-least-clause-read c =
    let known = c.in_ok-number.ensures in
    let is = sym c.as_bytes.ensures.value ∙ known.read in
    number_in-below c.args.least c.args.most c.in_ok-number.number c.args.word.now (omega (arith, known.small)) is (omega arith)

pub returns-else-number-least-clause-read : goal.returns-else-number-least-clause-read
returns-else-number-least-clause-read c =
    let known = c.in_ok-number.ensures in
    let is = sym c.as_bytes.ensures.value ∙ known.read in
    number_in-within c.args.least c.args.most c.in_ok-number.number c.args.word.now (omega (arith, known.small)) is (omega arith) known.small

use Rattle.std.proofs.Common.{◌++◌, drop, sym, ap, ◌∙◌}
use Rattle.std.specs.Prelude.{codes}
use Rattle.checkpoint.proofs.WrittenTexts.{word-earlier, word-later}
use Rattle.checkpoint.proofs.word_room.write_word.Goals as goal

pub returns-then-date-before-clause-written : goal.returns-then-date-before-clause-written
returns-then-date-before-clause-written c =
    let tail = drop c.args.end c.args.room.now in
    c.write_front.ensures.written
    ∙ ap (λ l. codes "-" ++ l) c.write_number-number.ensures.written
    ∙ sym (ap (λ l. l ++ tail) (word-earlier c.args.before c.args.date c.if-date-before.true))

pub returns-clause-written : goal.returns-clause-written
returns-clause-written c =
    let tail = drop c.args.end c.args.room.now in
    c.write_number.ensures.written ∙ sym (ap (λ l. l ++ tail) (word-later c.args.before c.args.date c.if-date-before.false))

use Rattle.std.proofs.Common.{◌++◌, append-nil, sym, ap, ◌∙◌, arith}
use Rattle.checkpoint.proofs.WrittenTexts.{words_from-none}
use Rattle.checkpoint.proofs.word_room.put_words.Goals as goal

pub returns-then-first-dates : goal.returns-then-first-dates
returns-then-first-dates c =
    let text = c.args.text.now.items in
    sym (append-nil text) ∙ ap (λ l. text ++ l) (sym (words_from-none c.args.dates.now c.args.first (omega arith)))

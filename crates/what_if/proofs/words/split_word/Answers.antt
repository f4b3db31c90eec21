use Rattle.std.proofs.Common.{◌<◌, ◌+◌, sym, subst, arith, drop, length}
use Rattle.what_if.specs.Edits.{IsSplit}
use Rattle.what_if.proofs.WordsOfEdits.{no_space-at_end, end-within, split-at}
use Rattle.what_if.proofs.words.split_word.Goals as goal

pub returns-then-end-text : goal.returns-then-end-text
returns-then-end-text c = no_space-at_end c.args.text.now c.end_before-end.result c.end_before-end.ensures c.if-end-text.true

pub prefix-requires : goal.prefix-requires
prefix-requires c = omega (arith, c.end_before-end.ensures, end-within c.args.text.now)

pub returns : goal.returns
returns c =
    let text = c.args.text.now in
    let end = c.end_before-end.result in
    let more : end < length text = omega (arith, c.end_before-end.ensures, end-within text, c.if-end-text.false) in
    subst (λ rest. IsSplit text c.prefix.result.now rest) (sym c.behind.ensures) (
    subst (λ word. IsSplit text word (drop (end + 1) text)) (sym c.prefix.ensures) (split-at text end c.end_before-end.ensures more))

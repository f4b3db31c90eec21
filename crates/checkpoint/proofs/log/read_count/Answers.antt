use Rattle.std.proofs.Common.{◌≡◌, ◌<◌, ◌^◌, length, ap, ◌∙◌, arith}
use Rattle.std.specs.Prelude.{decimal}
use Rattle.std.proofs.lemmas.List.{length-append}
use Rattle.checkpoint.proofs.WordBytes.{word-decimal}
use Rattle.checkpoint.proofs.ReadDates.{count_small}
use Rattle.checkpoint.proofs.log.read_count.Goals as goal

pub returns-in_err-number-clause-tells : goal.returns-in_err-number-clause-tells
returns-in_err-number-clause-tells c count after fits ends is =
    let small : count < 2 ^ 32 = count_small count c.args.reader.now.rest after c.requires fits is in
    let word = c.word.ensures.tells (decimal count) after (word-decimal count (omega arith)) ends is in
    let none : ⊥ = cc (c.in_err-number.ensures.tells count (omega arith) word.0) in
    absurd none

pub returns-then-number-most-clause-tells : goal.returns-then-number-most-clause-tells
returns-then-number-most-clause-tells c count after fits ends is =
    let small : count < 2 ^ 32 = count_small count c.args.reader.now.rest after c.requires fits is in
    let word = c.word.ensures.tells (decimal count) after (word-decimal count (omega arith)) ends is in
    let same : c.in_ok-number.number ≡ count = cc (c.in_ok-number.ensures.tells count (omega arith) word.0) in
    let long = ap length (c.rest.ensures ∙ word.1) in
    absurd (omega (arith, same, long, fits, c.if-number-most.true))

pub returns-clause-tells : goal.returns-clause-tells
returns-clause-tells c count after fits ends is =
    let small : count < 2 ^ 32 = count_small count c.args.reader.now.rest after c.requires fits is in
    let word = c.word.ensures.tells (decimal count) after (word-decimal count (omega arith)) ends is in
    (c.in_ok-number.ensures.tells count (omega arith) word.0, word.1)

pub returns-clause-few : goal.returns-clause-few
returns-clause-few c =
    omega (arith, c.requires, c.if-number-most.false, ap length c.rest.ensures, ap length c.word.ensures.word, length-append c.word.result.now c.word.new.self.rest)

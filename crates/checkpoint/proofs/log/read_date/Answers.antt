use Rattle.std.proofs.Common.{◌++◌}
use Rattle.checkpoint.specs.Text.{date_word}
use Rattle.checkpoint.proofs.WordBytes.{word-date_word}
use Rattle.checkpoint.proofs.log.read_date.Goals as goal

pub returns-clause-tells : goal.returns-clause-tells
returns-clause-tells c date after given ends is =
    let format = c.args.format in
    let before = c.args.before in
    let passed = c.pass.ensures.tells (date_word format before date ++ after) is in
    let word = c.word.ensures.tells (date_word format before date) after (word-date_word format before date c.requires given) ends passed.1 in
    (c.date_of.ensures.tells date given word.0, word.1)

use Rattle.std.proofs.Common.{◌-◌, ◌<◌, ◌++◌, length, refl, ap, arith}
use Rattle.std.proofs.lemmas.List.{drop_all}
use Rattle.checkpoint.specs.Writing.{words_from}
use Rattle.checkpoint.proofs.WrittenTexts.{words_before}
use Rattle.checkpoint.proofs.word_room.write_words.Goals as goal

pub loop-left-init : goal.loop-left-init
loop-left-init c =
    let none = drop_all 1408 c.args.room.now (omega arith) in
    record {
      size = refl;
      ordered = c.requires.ordered;
      within = omega arith;
      begins = omega arith;
      wide = omega arith;
      written = ap (λ l. l ++ words_from c.args.dates.now c.args.to) none;
    }

pub loop-left-preserved : goal.loop-left-preserved
loop-left-preserved c =
    let loop = c.loop-left in
    let dates = c.args.dates.now in
    let low : loop.left - 1 < length dates = omega (arith, loop.invariant.within) in
    record {
      size = omega (arith, c.write_word-word.auto.room, c.write_front-at.auto.room, loop.invariant.size);
      ordered = omega arith;
      within = omega (arith, loop.invariant.within);
      begins = omega (arith, c.write_front-at.ensures.front, c.write_word-word.ensures.begins, loop.invariant.begins);
      wide = omega (arith, c.write_front-at.ensures.front, c.write_word-word.ensures.short, loop.invariant.wide);
      written =
          words_before dates (loop.left - 1) loop.left c.args.to c.date_before.result _ _ _ (omega arith) low c.date_before.ensures loop.invariant.written
          c.write_word-word.ensures.written c.write_front-at.ensures.written;
    }

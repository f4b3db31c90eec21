use Rattle.std.proofs.Common.{◌+◌, ◌-◌, ◌≤◌, ◌++◌, drop, length, refl, sym, ap, ◌∙◌, append_assoc, append-nil, take_all, length-drop, arith}
use Rattle.checkpoint.specs.Writing.{words_from}
use Rattle.checkpoint.proofs.WrittenTexts.{words_from-none}
use Rattle.checkpoint.proofs.word_room.put_by_room.Goals as goal

pub loop-from-init : goal.loop-from-init
loop-from-init c = record {
  size = refl;
  within = omega arith;
  written = refl;
}

pub loop-from-preserved : goal.loop-from-preserved
loop-from-preserved c =
    let loop = c.loop-from in
    let dates = c.args.dates.now in
    let words = c.write_words-start in
    let to = loop.from + c.min.result in
    let room = words.new.room in
    let front = words.result in
    let all = take_all (length room - front) (drop front room) (omega (arith, length-drop front room)) in
    record {
      size = omega (arith, words.auto.room, loop.invariant.size);
      within = omega (arith, c.min.ensures);
      written =
          ap (λ l. l ++ words_from dates to) (c.in_ok-extend_from_slice.ensures.items ∙ ap (λ l. loop.text.items ++ l) all)
          ∙ append_assoc loop.text.items (drop front room) (words_from dates to)
          ∙ ap (λ l. loop.text.items ++ l) words.ensures.written
          ∙ loop.invariant.written;
    }

pub returns : goal.returns
returns c =
    let loop = c.loop-from in
    let dates = c.args.dates.now in
    let past : length dates ≤ loop.from = omega arith in
    sym (append-nil loop.text.items)
    ∙ ap (λ l. loop.text.items ++ l) (sym (words_from-none dates loop.from past))
    ∙ loop.invariant.written

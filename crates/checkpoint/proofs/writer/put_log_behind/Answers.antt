use Rattle.std.proofs.Common.{refl}
use Rattle.std.specs.Prelude.{codes}
use Rattle.checkpoint.proofs.KeptWords.{words_behind}
use Rattle.checkpoint.proofs.WrittenTexts.{dates_written, ok_appended}
use Rattle.checkpoint.specs.declared.format.Format.TheVariants.{Differences}
use Rattle.checkpoint.proofs.writer.put_log_behind.Goals as goal

pub returns : goal.returns
returns c =
    let counted = c.put_number.new.text.items in
    let dates = c.args.dates.now in
    let words = words_behind dates c.args.words.now counted _ c.put_words.new.text.items c.args.count c.requires.few c.requires.words c.in_ok-extend_from_slice.ensures.items c.in_ok-put_words.ensures in
    ok_appended c.extend_from_slice-2.result _ c.put_words.new.text.items (codes "\n") _ c.extend_from_slice-2.ensures.items
    (dates_written Differences c.args.text.now.items counted c.put_words.new.text.items _ dates c.in_ok-put_number.ensures words refl)

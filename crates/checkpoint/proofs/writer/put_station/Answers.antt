use Rattle.std.proofs.Common.{refl}
use Rattle.std.specs.Prelude.{codes}
use Rattle.checkpoint.proofs.WrittenTexts.{station_words_written, ok_appended}
use Rattle.checkpoint.proofs.writer.put_station.Goals as goal

pub returns : goal.returns
returns c =
    let labelled = c.extend_from_slice-2.new.self.items in
    ok_appended c.extend_from_slice-3.result _ labelled (codes " ") _ c.extend_from_slice-3.ensures.items
    (station_words_written c.args.graph.now c.args.t c.args.text.now.items _ labelled _ c.label.result.now c.in_ok-extend_from_slice.ensures.items c.in_ok-extend_from_slice-2.ensures.items refl c.label.ensures.text)

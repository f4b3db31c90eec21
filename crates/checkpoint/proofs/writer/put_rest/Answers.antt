use Rattle.std.specs.Prelude.{codes}
use Rattle.checkpoint.proofs.FilledTexts.{rest_written}
use Rattle.checkpoint.proofs.WrittenTexts.{ok_appended}
use Rattle.checkpoint.proofs.writer.put_rest.Goals as goal

pub returns : goal.returns
returns g c =
    ok_appended c.extend_from_slice.result _ c.put_places.new.text.items (codes "end\n") _ c.extend_from_slice.ensures.items
    (rest_written c.args.text.now.items c.put_places.new.text.items _ c.in_ok-put_places.ensures)

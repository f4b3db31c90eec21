use Rattle.std.proofs.Common.{◌++◌, ap, ◌∙◌}
use Rattle.std.specs.Prelude.{codes, decimal}
use Rattle.checkpoint.specs.declared.format.Format.TheVariants.{Differences}
use Rattle.checkpoint.specs.Text.{dates_text}
use Rattle.checkpoint.proofs.WrittenTexts.{place_written, ok_then}
use Rattle.checkpoint.proofs.writer.put_place.Goals as goal

pub returns : goal.returns
returns g c =
    let start = c.args.text.now.items in
    let spaced = c.extend_from_slice.new.self.items in
    let number = c.in_ok-put_numbered.ensures ∙ ap (λ n. start ++ (codes "place " ++ decimal n)) c.from.ensures in
    ok_then c.put_tokens.result c.put_tokens.ensures (λ dated.
    place_written c.args.a start _ spaced _ _ number c.in_ok-extend_from_slice.ensures.items (dated ∙ ap (λ l. spaced ++ dates_text Differences l) c.place_in.ensures.tokens))

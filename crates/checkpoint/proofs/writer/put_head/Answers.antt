use Rattle.checkpoint.proofs.FilledTexts.{head_written}
use Rattle.checkpoint.proofs.WrittenTexts.{ok_then}
use Rattle.checkpoint.proofs.writer.put_head.Goals as goal

pub returns : goal.returns
returns c =
    ok_then c.put_delays.result c.put_delays.ensures (λ delays.
    head_written c.args.graph.now c.args.text.now.items _ _ c.in_ok-extend_from_slice.ensures.items delays)

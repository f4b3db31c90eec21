use Rattle.outside_io.proofs.OutgoingLemmas.{pushed_part}
use Rattle.outside_io.proofs.outgoing.Outgoing.push_part.Goals as goal

pub returns : goal.returns
returns g c =
    rw (← c.self.view_is)
    (pushed_part _ c.self.inside.buffer c.args.part.now c.add.new.self c.self.inside.failed c.add.ensures c.send_full-self-inside.ensures.pushed)

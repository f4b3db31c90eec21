use Rattle.outside_io.proofs.OutgoingLemmas.{pushed_part}
use Rattle.outside_io.proofs.outgoing.Outgoing.push_number.Goals as goal

pub returns : goal.returns
returns g c =
    rw (← c.self.view_is)
    (pushed_part _ c.self.inside.buffer _ c.add_number.new.self c.self.inside.failed c.add_number.ensures.added c.send_full-self-inside.ensures.pushed)

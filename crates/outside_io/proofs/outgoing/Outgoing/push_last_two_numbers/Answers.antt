use Rattle.outside_io.proofs.OutgoingLemmas.{pushed_part}
use Rattle.outside_io.proofs.outgoing.Outgoing.push_last_two_numbers.Goals as goal

pub returns : goal.returns
returns g c =
    rw (← c.self.view_is)
    (pushed_part _ c.self.inside.buffer _ c.add_last_two_numbers.new.self c.self.inside.failed c.add_last_two_numbers.ensures c.send_full-self-inside.ensures.pushed)

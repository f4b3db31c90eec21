use Rattle.std.proofs.Common.{ap}
use Rattle.outside_io.proofs.OutgoingLemmas.{writes_text}
use Rattle.answers.proofs.changes.Changes.write.Goals as goal

pub returns-clause-puts : goal.returns-clause-puts
returns-clause-puts g c =
    let empty = c.self.invariant.1 in
    rw (← c.self.view_is) (writes_text (g.K.Sink.shown c.finish.new.sink) c.finish.result (ap (λ o. o.bytes) empty) (ap (λ o. o.failed) empty) c.write_text.ensures c.finish.ensures.flushed)

use Rattle.outside_io.proofs.OutgoingLemmas.{text_written}
use Rattle.line_summary.proofs.summary.Summary.write.Goals as goal

pub returns-clause-puts : goal.returns-clause-puts
returns-clause-puts g c =
    rw (← c.self.view_is) (text_written (g.K.Sink.shown c.finish.new.sink) c.finish.result c.self.invariant.2 c.write_text.ensures c.finish.ensures.flushed)

use Rattle.outside_io.proofs.OutgoingLemmas.{text_written}
use Rattle.line_report.proofs.report.Report.write_summary.Goals as goal

pub write_summary_text-requires : goal.write_summary_text-requires
write_summary_text-requires g c = record { numbers = c.self.invariant.3; of_plant = c.self.invariant.0 }

pub returns-clause-puts : goal.returns-clause-puts
returns-clause-puts g c =
    rw (← c.self.view_is) (text_written (g.K.Sink.shown c.finish.new.sink) c.finish.result c.self.invariant.2 c.write_summary_text.ensures c.finish.ensures.flushed)

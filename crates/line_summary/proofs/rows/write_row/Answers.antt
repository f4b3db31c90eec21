use Rattle.line_report.proofs.Lines.{text_written}
use Rattle.line_summary.proofs.rows.write_row.Goals as goal

pub returns-clause-puts : goal.returns-clause-puts
returns-clause-puts g c =
    text_written (g.K.Sink.shown c.finish.new.sink) c.finish.result c.requires c.push_row.ensures c.finish.ensures.flushed

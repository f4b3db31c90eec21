use Rattle.std.proofs.Common.{arith}
use Rattle.event_graph.specs.Table.{date_in}
use Rattle.outside_io.proofs.OutgoingLemmas.{pushed_none, pushed_next}
use Rattle.line_report.specs.ReportText.{peak_line}
use Rattle.line_report.proofs.totals.write_peaks.Goals as goal

pub loop-stage-init : goal.loop-stage-init
loop-stage-init g c = pushed_none _

pub loop-stage-preserved : goal.loop-stage-preserved
loop-stage-preserved g c =
    pushed_next (peak_line c.args.run.now.plant (date_in c.args.run.now.table.rows)) 0 c.loop-stage.stage c.loop-stage.stage (omega arith) c.loop-stage.invariant c.write_peak.ensures

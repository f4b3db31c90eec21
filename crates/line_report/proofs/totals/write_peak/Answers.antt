use Rattle.std.proofs.Common.{◌≡◌}
use Rattle.plant_model.specs.Line.{stage_at}
use Rattle.outside_io.proofs.OutgoingLemmas.{◌⨟◌}
use Rattle.line_report.specs.ReportText.{peak_line}
use Rattle.line_report.proofs.Lines.{stage_read}
use Rattle.line_report.proofs.totals.write_peak.Goals as goal

pub returns : goal.returns
unfolding peak_line
returns g c =
    let plant = c.args.run.now.plant in
    let read : c.index-as_slice-stage.result ≡ stage_at plant c.args.stage =
    stage_read plant c.args.stage c.as_slice.result.now c.index-as_slice-stage.result c.as_slice.ensures c.requires.exists c.index-as_slice-stage.is
    in
    let name = rw c.text.ensures.text at c.push-2.ensures in
    let end = rw (c.peak-most.ensures.peak, c.bound_of.ensures.bound) at c.write_peak_end.ensures in
    rw (← read) (c.push.ensures ⨟ name ⨟ end)

use Rattle.outside_io.proofs.OutgoingLemmas.{◌⨟◌}
use Rattle.line_report.specs.ReportText.{waiting_line, last_line}
use Rattle.line_report.proofs.totals.write_totals.Goals as goal

pub returns : goal.returns
unfolding waiting_line last_line
returns g c =
    let waiting = rw c.waiting_total.ensures at c.write_number_line.ensures in
    let last = rw c.last.ensures at c.write_number_line-2.ensures in
    waiting ⨟ last

use Rattle.line_report.specs.SummaryText.{sum_line}
use Rattle.line_report.proofs.summary.write_sum.Goals as goal

pub returns : goal.returns
unfolding sum_line
returns g c = rw c.date_total.ensures at c.write_number_line.ensures

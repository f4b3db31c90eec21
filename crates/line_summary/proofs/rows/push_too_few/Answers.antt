use Rattle.outside_io.proofs.OutgoingLemmas.{◌⨟◌}
use Rattle.line_summary.specs.CurveText.{too_few_row}
use Rattle.line_summary.proofs.rows.push_too_few.Goals as goal

pub returns : goal.returns
unfolding too_few_row
returns g c = c.write_number_behind.ensures ⨟ c.push.ensures

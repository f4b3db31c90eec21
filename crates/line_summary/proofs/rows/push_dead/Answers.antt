use Rattle.outside_io.proofs.OutgoingLemmas.{◌⨟◌}
use Rattle.line_summary.specs.CurveText.{dead_row}
use Rattle.line_summary.proofs.rows.push_dead.Goals as goal

pub returns : goal.returns
unfolding dead_row
returns g c = c.write_number_behind.ensures ⨟ c.push.ensures

use Rattle.outside_io.proofs.OutgoingLemmas.{◌⨟◌}
use Rattle.line_report.proofs.totals.write_peak_end.Goals as goal

pub returns : goal.returns
returns g c = c.write_number_behind.ensures ⨟ c.push.ensures ⨟ c.write_bound.ensures ⨟ c.push-2.ensures

use Rattle.outside_io.proofs.OutgoingLemmas.{◌⨟◌}
use Rattle.line_summary.proofs.thousandths.write_ratio.Goals as goal

pub returns : goal.returns
returns g c = c.push.ensures ⨟ c.push_thousandths.ensures

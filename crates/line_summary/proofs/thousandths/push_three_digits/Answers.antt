use Rattle.outside_io.proofs.OutgoingLemmas.{◌⨟◌}
use Rattle.line_summary.proofs.thousandths.push_three_digits.Goals as goal

pub returns : goal.returns
returns g c = c.push_number.ensures ⨟ c.push_number-2.ensures ⨟ c.push_number-3.ensures

use Rattle.outside_io.proofs.OutgoingLemmas.{◌⨟◌}
use Rattle.line_chart.proofs.text.write_numbered.Goals as goal

pub returns : goal.returns
returns g c = c.push.ensures ⨟ c.push_number.ensures

use Rattle.outside_io.proofs.OutgoingLemmas.{◌⨟◌}
use Rattle.line_chart.proofs.areas.write_path_element.Goals as goal

pub returns : goal.returns
returns g c = c.push.ensures ⨟ c.write_path.ensures ⨟ c.push-2.ensures

use Rattle.outside_io.proofs.OutgoingLemmas.{◌⨟◌}
use Rattle.line_chart.proofs.areas.write_step.Goals as goal

pub returns : goal.returns
returns g c = c.write_numbered.ensures ⨟ c.write_numbered-2.ensures

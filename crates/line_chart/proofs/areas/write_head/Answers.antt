use Rattle.outside_io.proofs.OutgoingLemmas.{◌⨟◌}
use Rattle.line_chart.specs.ChartText.{area_head}
use Rattle.line_chart.proofs.areas.write_head.Goals as goal

pub returns : goal.returns
unfolding area_head
returns g c = c.write_interleaved.ensures ⨟ c.push.ensures ⨟ c.write_interleaved-2.ensures

use Rattle.outside_io.proofs.OutgoingLemmas.{◌⨟◌}
use Rattle.line_chart.specs.ChartText.{field_line, bars_text}
use Rattle.line_chart.proofs.bars.write_bars.Goals as goal

pub returns : goal.returns
unfolding field_line bars_text
returns g c =
    let field = rw c.requires.lanes at c.write_interleaved.ensures in
    field ⨟ c.write_all_bars.ensures ⨟ c.push.ensures

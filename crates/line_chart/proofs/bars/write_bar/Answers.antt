use Rattle.line_chart.specs.ChartText.{bar_line}
use Rattle.line_chart.proofs.bars.write_bar.Goals as goal

pub returns : goal.returns
unfolding bar_line
returns g c = c.write_interleaved.ensures

use Rattle.line_chart.specs.ChartText.{head_text}
use Rattle.line_chart.proofs.picture.write_head.Goals as goal

pub returns : goal.returns
unfolding head_text
returns g c = c.write_interleaved.ensures

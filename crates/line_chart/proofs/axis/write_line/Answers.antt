use Rattle.line_chart.specs.ChartText.{axis_line}
use Rattle.line_chart.proofs.axis.write_line.Goals as goal

pub returns : goal.returns
unfolding axis_line
returns g c = rw c.axis_x-x.ensures at c.write_interleaved.ensures

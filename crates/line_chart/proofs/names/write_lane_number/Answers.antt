use Rattle.outside_io.proofs.OutgoingLemmas.{pushed_none}
use Rattle.line_chart.proofs.ChartLines.{lane_number-one}
use Rattle.line_chart.proofs.names.write_lane_number.Goals as goal

pub returns-else-count-gt1 : goal.returns-else-count-gt1
returns-else-count-gt1 g c = rw (lane_number-one c.args.count c.args.lane c.if-count-gt1.false) (pushed_none _)

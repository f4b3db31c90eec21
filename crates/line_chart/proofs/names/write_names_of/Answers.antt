use Rattle.std.proofs.Common.{◌≡◌, arith}
use Rattle.outside_io.proofs.OutgoingLemmas.{pushed_none, ◌⨟◌, pushed_next}
use Rattle.line_chart.specs.ChartText.{lane_line, lane_lines}
use Rattle.line_chart.proofs.names.write_names_of.Goals as goal

pub loop-lane-init : goal.loop-lane-init
loop-lane-init g c = pushed_none _

pub loop-lane-preserved : goal.loop-lane-preserved
unfolding lane_line
loop-lane-preserved g c =
    let line = c.write_interleaved.ensures ⨟ (rw c.label.ensures.text at c.push.ensures) ⨟ c.write_lane_number.ensures ⨟ c.push-in-loop-lane.ensures in
    pushed_next (lane_line c.args.graph.now c.args.machine) 0 c.loop-lane.lane c.loop-lane.lane (omega arith) c.loop-lane.invariant line

pub returns : goal.returns
unfolding lane_lines
returns g c =
    let all : c.loop-lane.lane ≡ c.args.machine.count = omega arith in
    rw all at c.loop-lane.invariant

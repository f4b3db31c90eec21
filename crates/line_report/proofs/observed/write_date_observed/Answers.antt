use Rattle.std.proofs.Common.{◌≡◌, length, arith}
use Rattle.event_graph.specs.Table.{date_in}
use Rattle.outside_io.proofs.OutgoingLemmas.{pushed_none, pushed_next, ◌⨟◌}
use Rattle.line_report.specs.ReportText.{stage_line, observed_lines}
use Rattle.line_report.proofs.observed.write_date_observed.Goals as goal

pub loop-stage-init : goal.loop-stage-init
loop-stage-init g c = pushed_none _

pub loop-stage-preserved : goal.loop-stage-preserved
loop-stage-preserved g c =
    pushed_next (stage_line c.args.run.now.plant (date_in c.args.run.now.table.rows) c.args.at) 0 c.loop-stage.stage c.loop-stage.stage (omega arith) c.loop-stage.invariant c.write_stage.ensures

pub returns : goal.returns
unfolding observed_lines
returns g c =
    let all : c.loop-stage.stage ≡ length c.args.run.now.plant.stages = omega arith in
    (rw all at c.loop-stage.invariant) ⨟ c.write_backlog.ensures

use Rattle.std.proofs.Common.{◌≡◌, length, arith}
use Rattle.event_graph.specs.Table.{date_in}
use Rattle.outside_io.proofs.OutgoingLemmas.{pushed_none, pushed_next}
use Rattle.line_summary.specs.SummaryText.{stage_line}
use Rattle.line_summary.proofs.texts.write_stages.Goals as goal

pub loop-stage-init : goal.loop-stage-init
loop-stage-init g c = pushed_none _

pub loop-stage-preserved : goal.loop-stage-preserved
loop-stage-preserved g c =
    pushed_next (stage_line c.args.line.now.plant (date_in c.args.line.now.table.rows)) 0 c.loop-stage.stage c.loop-stage.stage (omega arith) c.loop-stage.invariant c.write_stage.ensures

pub returns : goal.returns
returns g c =
    let all : c.loop-stage.stage ≡ length c.args.line.now.plant.stages = omega arith in
    rw all at c.loop-stage.invariant

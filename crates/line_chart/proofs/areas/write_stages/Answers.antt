use Rattle.std.proofs.Common.{arith}
use Rattle.plant_model.proofs.LayoutFacts.{few_stages}
use Rattle.event_graph.specs.Table.{date_in}
use Rattle.outside_io.proofs.OutgoingLemmas.{pushed_next}
use Rattle.line_chart.specs.ChartText.{stage_area}
use Rattle.line_chart.proofs.areas.write_stages.Goals as goal

pub overflow_cast-stage : goal.overflow_cast-stage
overflow_cast-stage g c = omega (arith, few_stages c.args.run.now.plant c.requires.of_plant.sound)

pub loop-stage-preserved : goal.loop-stage-preserved
loop-stage-preserved g c =
    pushed_next (stage_area c.args.run.now.plant (date_in c.args.run.now.table.rows) c.args.run.now.window) 0 c.loop-stage.stage c.loop-stage.stage (omega arith) c.loop-stage.invariant c.write_stage.ensures

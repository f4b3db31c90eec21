use Rattle.std.proofs.Common.{arith}
use Rattle.plant_model.specs.Refusals.{stage_out_of_range}
use Rattle.plant_model.proofs.Passes.{stops}
use Rattle.plant_check.proofs.PassedElements.{passed_none, passed_more, passed_all}
use Rattle.plant_check.proofs.ranges.check_stages.Goals as goal

pub loop-i-init : goal.loop-i-init
loop-i-init c = passed_none _ _

pub returns-in_err-check_stage : goal.returns-in_err-check_stage
returns-in_err-check_stage c =
    stops stage_out_of_range c.args.stages.now c.loop-i.i c.index-stages-i.result c.from_residual.result
    c.from_residual.ensures.1 c.loop-i.invariant (omega arith) c.index-stages-i.is c.in_err-check_stage.ensures

pub loop-i-preserved : goal.loop-i-preserved
loop-i-preserved c =
    passed_more stage_out_of_range c.args.stages.now c.loop-i.i c.index-stages-i.result c.loop-i.invariant (omega arith)
    c.index-stages-i.is c.in_ok-check_stage.ensures

pub returns : goal.returns
returns c = passed_all stage_out_of_range c.args.stages.now c.loop-i.i c.loop-i.invariant (omega arith)

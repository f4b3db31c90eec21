use Rattle.std.proofs.Common.{length, arith}
use Rattle.plant_check.specs.Rules.{refused_flow}
use Rattle.plant_model.proofs.Passes.{stops}
use Rattle.plant_check.proofs.PassedElements.{passed_none, passed_more, passed_all}
use Rattle.plant_check.proofs.feeds.check_stages.Goals as goal

pub loop-i-init : goal.loop-i-init
loop-i-init g c = passed_none _ _

pub returns-in_err-check_stage : goal.returns-in_err-check_stage
returns-in_err-check_stage g c =
    stops (refused_flow c.args.rule (length c.args.stages.now)) c.args.stages.now c.loop-i.i c.index-stages-i.result c.from_residual.result
    c.from_residual.ensures.1 c.loop-i.invariant (omega arith) c.index-stages-i.is c.in_err-check_stage.ensures

pub loop-i-preserved : goal.loop-i-preserved
loop-i-preserved g c =
    passed_more (refused_flow c.args.rule (length c.args.stages.now)) c.args.stages.now c.loop-i.i c.index-stages-i.result c.loop-i.invariant (omega arith)
    c.index-stages-i.is c.in_ok-check_stage.ensures

pub returns : goal.returns
returns g c = passed_all (refused_flow c.args.rule (length c.args.stages.now)) c.args.stages.now c.loop-i.i c.loop-i.invariant (omega arith)

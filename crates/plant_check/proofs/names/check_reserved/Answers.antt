use Rattle.std.proofs.Common.{arith}
use Rattle.plant_model.specs.Refusals.{bad_name}
use Rattle.plant_model.proofs.Passes.{stops}
use Rattle.plant_check.proofs.PassedElements.{passed_none, passed_more, passed_all}
use Rattle.plant_check.proofs.names.check_reserved.Goals as goal

pub loop-i-init : goal.loop-i-init
loop-i-init c = passed_none _ _

pub returns-in_err-check_stage_reserved : goal.returns-in_err-check_stage_reserved
returns-in_err-check_stage_reserved c =
    rw (← c.as_slice-stages.ensures)
    (stops bad_name c.as_slice-stages.result.now c.loop-i.i c.index-stages-i.result c.from_residual.result
    c.from_residual.ensures.1 c.loop-i.invariant (omega arith) c.index-stages-i.is c.in_err-check_stage_reserved.ensures)

pub loop-i-preserved : goal.loop-i-preserved
loop-i-preserved c =
    passed_more bad_name c.as_slice-stages.result.now c.loop-i.i c.index-stages-i.result c.loop-i.invariant (omega arith)
    c.index-stages-i.is c.in_ok-check_stage_reserved.ensures

pub returns : goal.returns
returns c = rw (← c.as_slice-stages.ensures)
    (passed_all bad_name c.as_slice-stages.result.now c.loop-i.i c.loop-i.invariant (omega arith))

use Rattle.std.proofs.Common.{arith}
use Rattle.plant_model.proofs.Passes.{stops}
use Rattle.plant_check.proofs.PassedElements.{passed_none, passed_more, passed_all}
use Rattle.plant_file.specs.Counts.{stage_counts}
use Rattle.plant_file.proofs.counts.check_counts.Goals as goal

pub loop-i-init : goal.loop-i-init
loop-i-init c = passed_none _ _

pub returns-in_err-check_machines : goal.returns-in_err-check_machines
returns-in_err-check_machines c =
    stops (stage_counts c.args.jobs c.args.table.now) c.args.stages.now c.loop-i.i c.index-stages-i.result
    c.from_residual.result c.from_residual.ensures.1 c.loop-i.invariant (omega arith) c.index-stages-i.is
    (rw c.as_slice.ensures at c.in_err-check_machines.ensures)

pub loop-i-preserved : goal.loop-i-preserved
loop-i-preserved c =
    passed_more (stage_counts c.args.jobs c.args.table.now) c.args.stages.now c.loop-i.i c.index-stages-i.result
    c.loop-i.invariant (omega arith) c.index-stages-i.is (rw c.as_slice.ensures at c.in_ok-check_machines.ensures)

pub returns : goal.returns
returns c =
    passed_all (stage_counts c.args.jobs c.args.table.now) c.args.stages.now c.loop-i.i c.loop-i.invariant (omega arith)

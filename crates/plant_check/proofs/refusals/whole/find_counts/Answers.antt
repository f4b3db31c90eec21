use Rattle.std.proofs.Common.{arith}
use Rattle.plant_model.specs.Refusals.{stage_times_count}
use Rattle.plant_check.proofs.CollectedRefusals.{collected_none, collects, collected_all}
use Rattle.plant_check.proofs.refusals.whole.find_counts.Goals as goal

pub loop-i-init : goal.loop-i-init
loop-i-init c = collected_none _ _ _

pub loop-i-preserved : goal.loop-i-preserved
loop-i-preserved c =
    collects (stage_times_count c.args.jobs) c.args.stages.now c.loop-i.i c.index-stages-i.result _ _ _ c.loop-i.invariant (omega arith)
    c.index-stages-i.is (rw c.as_slice-machines.ensures at c.in_ok-find_counts_in_stage.ensures)

pub returns : goal.returns
returns c = collected_all (stage_times_count c.args.jobs) c.args.stages.now c.loop-i.i _ _ c.loop-i.invariant (omega arith)

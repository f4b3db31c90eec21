use Rattle.std.proofs.Common.{arith}
use Rattle.plant_model.specs.Refusals.{machine_times_count}
use Rattle.plant_check.proofs.CollectedRefusals.{collected_none, collects, collected_all}
use Rattle.plant_check.proofs.refusals.whole.find_counts_in_stage.Goals as goal

pub loop-j-init : goal.loop-j-init
loop-j-init c = collected_none _ _ _

pub loop-j-preserved : goal.loop-j-preserved
loop-j-preserved c =
    collects (machine_times_count c.args.jobs c.args.i) c.args.machines.now c.loop-j.j c.index-machines-j.result _ _ _ c.loop-j.invariant (omega arith)
    c.index-machines-j.is c.in_ok-find_count.ensures

pub returns : goal.returns
returns c = collected_all (machine_times_count c.args.jobs c.args.i) c.args.machines.now c.loop-j.j _ _ c.loop-j.invariant (omega arith)

use Rattle.std.proofs.Common.{arith}
use Rattle.plant_model.proofs.Passes.{stops}
use Rattle.plant_check.proofs.PassedElements.{passed_none, passed_more, passed_all}
use Rattle.plant_file.specs.Counts.{machine_counts}
use Rattle.plant_file.proofs.counts.check_machines.Goals as goal

pub loop-j-init : goal.loop-j-init
loop-j-init c = passed_none _ _

pub returns-in_err-check_times : goal.returns-in_err-check_times
returns-in_err-check_times c =
    stops (machine_counts c.args.jobs c.args.table.now c.args.i) c.args.machines.now c.loop-j.j c.index-machines-j.result
    c.from_residual.result c.from_residual.ensures.1 c.loop-j.invariant (omega arith) c.index-machines-j.is c.in_err-check_times.ensures

pub loop-j-preserved : goal.loop-j-preserved
loop-j-preserved c =
    passed_more (machine_counts c.args.jobs c.args.table.now c.args.i) c.args.machines.now c.loop-j.j c.index-machines-j.result
    c.loop-j.invariant (omega arith) c.index-machines-j.is c.in_ok-check_times.ensures

pub returns : goal.returns
returns c =
    passed_all (machine_counts c.args.jobs c.args.table.now c.args.i) c.args.machines.now c.loop-j.j c.loop-j.invariant (omega arith)

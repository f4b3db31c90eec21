use Rattle.std.proofs.Common.{arith}
use Rattle.plant_model.specs.Refusals.{machine_out_of_range}
use Rattle.plant_model.proofs.Passes.{stops}
use Rattle.plant_check.proofs.PassedElements.{passed_none, passed_more, passed_all}
use Rattle.plant_check.proofs.ranges.check_machines.Goals as goal

pub loop-j-init : goal.loop-j-init
loop-j-init c = passed_none _ _

pub returns-in_err-check_machine : goal.returns-in_err-check_machine
returns-in_err-check_machine c =
    stops (machine_out_of_range c.args.i) c.args.machines.now c.loop-j.j c.index-machines-j.result c.from_residual.result
    c.from_residual.ensures.1 c.loop-j.invariant (omega arith) c.index-machines-j.is c.in_err-check_machine.ensures

pub loop-j-preserved : goal.loop-j-preserved
loop-j-preserved c =
    passed_more (machine_out_of_range c.args.i) c.args.machines.now c.loop-j.j c.index-machines-j.result c.loop-j.invariant (omega arith)
    c.index-machines-j.is c.in_ok-check_machine.ensures

pub returns : goal.returns
returns c = passed_all (machine_out_of_range c.args.i) c.args.machines.now c.loop-j.j c.loop-j.invariant (omega arith)

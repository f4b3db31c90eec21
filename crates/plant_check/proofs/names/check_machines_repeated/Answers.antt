use Rattle.std.proofs.Common.{arith}
use Rattle.plant_model.specs.Refusals.{machine_name_twice}
use Rattle.plant_model.proofs.Passes.{stops}
use Rattle.plant_check.proofs.PassedElements.{passed_none, passed_more, passed_all}
use Rattle.plant_check.proofs.names.check_machines_repeated.Goals as goal

pub loop-j-init : goal.loop-j-init
loop-j-init c = passed_none _ _

pub returns-in_err-check_machine_repeated : goal.returns-in_err-check_machine_repeated
returns-in_err-check_machine_repeated c =
    let machines = c.args.machines.now in
    stops (machine_name_twice c.args.i machines) machines c.loop-j.j c.index-machines-j.result c.from_residual.result
    c.from_residual.ensures.1 c.loop-j.invariant (omega arith) c.index-machines-j.is c.in_err-check_machine_repeated.ensures

pub loop-j-preserved : goal.loop-j-preserved
loop-j-preserved c =
    let machines = c.args.machines.now in
    passed_more (machine_name_twice c.args.i machines) machines c.loop-j.j c.index-machines-j.result c.loop-j.invariant
    (omega arith) c.index-machines-j.is c.in_ok-check_machine_repeated.ensures

pub returns : goal.returns
returns c =
    let machines = c.args.machines.now in
    passed_all (machine_name_twice c.args.i machines) machines c.loop-j.j c.loop-j.invariant (omega arith)

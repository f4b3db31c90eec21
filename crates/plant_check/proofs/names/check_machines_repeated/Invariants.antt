use Rattle.plant_model.specs.Refusals.{machine_name_twice}
use Rattle.plant_model.proofs.Passes.{Passed}
use Rattle.plant_check.proofs.names.check_machines_repeated.Given as goal

abbrev pub invariant-loop-j : goal.invariant-loop-j
invariant-loop-j l = Passed (machine_name_twice l.i l.machines) l.machines l.j

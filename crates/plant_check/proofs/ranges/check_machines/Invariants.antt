use Rattle.plant_model.specs.Refusals.{machine_out_of_range}
use Rattle.plant_model.proofs.Passes.{Passed}
use Rattle.plant_check.proofs.ranges.check_machines.Given as goal

abbrev pub invariant-loop-j : goal.invariant-loop-j
invariant-loop-j l = Passed (machine_out_of_range l.i) l.machines l.j

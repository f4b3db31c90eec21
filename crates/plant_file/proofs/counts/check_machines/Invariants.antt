use Rattle.plant_model.proofs.Passes.{Passed}
use Rattle.plant_file.specs.Counts.{machine_counts}
use Rattle.plant_file.proofs.counts.check_machines.Given as goal

abbrev pub invariant-loop-j : goal.invariant-loop-j
invariant-loop-j l = Passed (machine_counts l.jobs l.table l.i) l.machines l.j

use Rattle.plant_model.specs.Refusals.{machine_times_count}
use Rattle.plant_check.proofs.CollectedRefusals.{Collected}
use Rattle.plant_check.proofs.refusals.whole.find_counts_in_stage.Given as goal

abbrev pub invariant-loop-j : goal.invariant-loop-j
invariant-loop-j l = Collected (machine_times_count l.jobs l.i) l.machines l.j l.initial.refusals.items l.refusals.items

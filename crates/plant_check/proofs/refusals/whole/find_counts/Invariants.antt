use Rattle.plant_model.specs.Refusals.{stage_times_count}
use Rattle.plant_check.proofs.CollectedRefusals.{Collected}
use Rattle.plant_check.proofs.refusals.whole.find_counts.Given as goal

abbrev pub invariant-loop-i : goal.invariant-loop-i
invariant-loop-i l = Collected (stage_times_count l.jobs) l.stages l.i l.initial.refusals.items l.refusals.items

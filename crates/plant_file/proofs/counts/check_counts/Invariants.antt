use Rattle.plant_model.proofs.Passes.{Passed}
use Rattle.plant_file.specs.Counts.{stage_counts}
use Rattle.plant_file.proofs.counts.check_counts.Given as goal

abbrev pub invariant-loop-i : goal.invariant-loop-i
invariant-loop-i l = Passed (stage_counts l.jobs l.table) l.stages l.i

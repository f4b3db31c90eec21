use Rattle.plant_model.proofs.PathTables.{FedSoFar}
use Rattle.plant_model.proofs.path_table.fed_marks.Given as goal

abbrev pub invariant-loop-stage : goal.invariant-loop-stage
invariant-loop-stage l = FedSoFar l.plant l.stage-index l.fed.items

use Rattle.std.proofs.Common.{◌≡◌, ◌<◌, ◌-◌, length}
use Rattle.plant_model.specs.Line.{is_downstream}
use Rattle.plant_model.proofs.path_table.PathTable.is_downstream.Given as goal

abbrev pub invariant-loop-stage : goal.invariant-loop-stage
invariant-loop-stage l = (l.stage < length l.self.stages) × (is_downstream l.self l.stage l.to ≡ is_downstream l.self l.from l.to)

abbrev pub decreases-loop-stage : goal.decreases-loop-stage
decreases-loop-stage l = l.to - l.stage

use Rattle.std.proofs.Common.{◌≡◌, ◌∷◌, take}
use Rattle.std.specs.List.{flat_map}
use Rattle.line_base.specs.declared.times.Times.TheVariants.{Fixed}
use Rattle.plant_model.specs.Graph.{stage_times}
use Rattle.line_graph.proofs.times.fill_times.Given as goal

abbrev pub invariant-loop-stage : goal.invariant-loop-stage
invariant-loop-stage l = l.all.items ≡ Fixed 0 ∷ flat_map stage_times (take l.stage-index l.plant.stages)

use Rattle.std.proofs.Common.{◌≡◌, map, take}
use Rattle.toml.specs.View.{view}
use Rattle.plant_file.specs.Reading.{stage_of}
use Rattle.plant_file.proofs.build.stages_of.Given as goal

abbrev pub invariant-loop-stage : goal.invariant-loop-stage
invariant-loop-stage l = l.drafts.items ≡ map (λ x. stage_of l.names (view x)) (take l.stage-index l.stages)

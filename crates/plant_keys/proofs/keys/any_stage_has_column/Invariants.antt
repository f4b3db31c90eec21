use Rattle.std.proofs.Common.{◌≡◌, false, take}
use Rattle.std.specs.List.{list_any}
use Rattle.toml.specs.View.{view}
use Rattle.plant_keys.specs.Keys.{stage_has_column}
use Rattle.plant_keys.proofs.keys.any_stage_has_column.Given as goal

abbrev pub invariant-loop-stage : goal.invariant-loop-stage
invariant-loop-stage l = list_any (λ s. stage_has_column (view s)) (take l.stage-index l.stages) ≡ false

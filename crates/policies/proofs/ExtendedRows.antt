-- The rows of extended kanban, stage by stage.
use Rattle.std.proofs.Common.{◌≡◌, ℕ, ◌-◌, List, [], ◌∷◌, refl}
use Rattle.std.specs.List.{flat_map}
use Rattle.plant_model.specs.declared.plant.Plant.{Plant}
use Rattle.plant_model.specs.Line.{stage_at, stage_numbers, starting}
use Rattle.plant_model.specs.Graph.{Row, demand_row, card_row, extended_rows}

-- the rows of stage i
abbrev pub stage_rows : Plant → ℕ → List Row
stage_rows p i = demand_row p i ∷ card_row p ((stage_at p i).cards - starting p i) i ∷ []

pub extended_rows-by_stage : (p : Plant) → extended_rows p ≡ flat_map (stage_rows p) (stage_numbers p)
extended_rows-by_stage p = refl

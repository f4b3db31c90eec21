-- The bound of a stage: how many parts may stand in it.
use Rattle.std.specs.Prelude.{ℕ, Option, None, Some}
use Rattle.plant_model.specs.declared.plant.Policy.{Policy}
use Rattle.plant_model.specs.declared.plant.Policy.TheVariants.{Kanban, Conwip, BaseStock, Extended}
use Rattle.plant_model.specs.declared.plant.Plant.{Plant}
use Rattle.plant_model.specs.Line.{stage_at}

-- the bound of stage i: its cards under kanban and extended kanban, the line's under CONWIP, none under base stock
abbrev pub bound : Plant → ℕ → Option ℕ
bound p i = bound_under p.policy
  where
    bound_under : Policy → Option ℕ
    bound_under Kanban = Some (stage_at p i).cards
    bound_under (Conwip cards) = Some cards
    bound_under BaseStock = None
    bound_under Extended = Some (stage_at p i).cards

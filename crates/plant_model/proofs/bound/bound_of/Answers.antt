use Rattle.std.proofs.Common.{◌≡◌, ℕ, ◌<◌, ◌⊎◌, inl, inr, Some, length, get_or, ap}
use Rattle.std.proofs.lemmas.List.{get_or_default}
use Rattle.plant_model.specs.declared.plant.Plant.{Plant}
use Rattle.plant_model.specs.declared.plant.Policy.TheVariants.{Kanban, Extended}
use Rattle.plant_model.specs.Bound.{bound}
use Rattle.plant_model.specs.Line.{no_stage}
use Rattle.plant_model.specs.Stages.{Stage}
use Rattle.plant_model.proofs.bound.bound_of.Goals as goal

own_cards : (p : Plant) (i : ℕ) (d : Stage) → i < length p.stages → (p.policy ≡ Kanban) ⊎ (p.policy ≡ Extended) → Some (get_or p.stages i d).cards ≡ bound p i
own_cards p i d below (inl kanban) = rw kanban (ap (λ (s : Stage). Some s.cards) (get_or_default p.stages i d no_stage below))
own_cards p i d below (inr extended) = rw extended (ap (λ (s : Stage). Some s.cards) (get_or_default p.stages i d no_stage below))

pub returns-in-Kanban-clause-bound : goal.returns-in-Kanban-clause-bound
returns-in-Kanban-clause-bound c =
    rw c.as_slice.ensures
    (own_cards c.args.plant.now c.args.stage c.index-as_slice-stage.result c.requires c.in-Kanban.is)

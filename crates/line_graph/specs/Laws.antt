-- Laws of the policies, each on a public function whose contract cites it (Dallery and Liberopoulos 2000, for kanban
-- and base stock as the ends of extended kanban).
use Rattle.std.specs.Prelude.{◌≡◌, ℕ, ◌+◌, ◌<◌, ◌≤◌, ◌↔◌, length}
use Rattle.plant_model.specs.declared.plant.Policy.{Policy}
use Rattle.plant_model.specs.declared.plant.Policy.TheVariants.{Kanban, BaseStock, Extended}
use Rattle.plant_model.specs.declared.plant.Plant.{Plant}
use Rattle.plant_model.specs.Line.{stage_at}
use Rattle.plant_model.specs.Graph.{graph}
use Rattle.event_graph.specs.Table.{Table}
use Rattle.event_graph.specs.Least.{IsLeast}

-- the same plant under another policy
abbrev pub under : Policy → Plant → Plant
under policy p = record p { policy = policy }

-- a table is the least solution of the one plant exactly where it is that of the other
abbrev pub HaveSameLeast : Plant → Plant → Type 0
HaveSameLeast p q = (x : Table) → IsLeast (graph p) x ↔ IsLeast (graph q) x

-- each stage has as many cards as stock
abbrev pub CardsEqualStock : Plant → Type 0
CardsEqualStock p = (i : ℕ) → i < length p.stages → (stage_at p i).cards ≡ (stage_at p i).stock

-- each stage has a card for each part of its stock and for each job
abbrev pub CardsCoverJobs : Plant → Type 0
CardsCoverJobs p = (i : ℕ) → i < length p.stages → (stage_at p i).stock + length p.demands ≤ (stage_at p i).cards

-- extended kanban is kanban where each stage has as many cards as stock
abbrev pub ExtendedIsKanban : Plant → Type 0
ExtendedIsKanban p = p.policy ≡ Extended → CardsEqualStock p → HaveSameLeast p (under Kanban p)

-- extended kanban is base stock where the cards never run out
abbrev pub ExtendedIsBaseStock : Plant → Type 0
ExtendedIsBaseStock p = p.policy ≡ Extended → CardsCoverJobs p → HaveSameLeast p (under BaseStock p)

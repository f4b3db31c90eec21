-- A plant and the dates of a run of it: what contracts see of a report, of a summary and of a table of dates.
use Rattle.std.specs.Prelude.{◌≡◌, ℕ, ◌<◌, List, length}
use Rattle.plant_model.specs.declared.plant.Plant.{Plant}
use Rattle.plant_model.specs.Graph.{graph}
use Rattle.plant_model.specs.Sound.{IsSound}
use Rattle.live_check.specs.Order.{LiveGraph}
use Rattle.line_core.specs.Run.{Dates, IsLeastTable}

-- a plant, and a list of dates for each of its stations
pub record PlantDates : Type 0 where
  pub plant : Plant
  pub rows : List (List ℕ)

-- the plant is sound, and the dates are the least solution of its graph
pub record AreLeastDates (d : PlantDates) : Type 0 where
  pub sound : IsSound d.plant
  pub least : IsLeastTable (record { graph = graph d.plant; rows = d.rows })

-- a sound plant, its live graph, and a table of that graph
pub record AreOfPlant (p : Plant) (live : LiveGraph) (table : Dates) : Type 0 where
  pub sound : IsSound p
  pub live_graph : live.graph ≡ graph p
  pub table_graph : table.graph ≡ graph p

-- a stage of a sound plant, with the plant's numbers and a table of its graph
pub record IsStageOf (p numbered : Plant) (table : Dates) (stage : ℕ) : Type 0 where
  pub sound : IsSound p
  pub numbers : numbered ≡ p
  pub of_plant : table.graph ≡ graph p
  pub exists : stage < length p.stages

-- what is written stays as it was, and its dates are the least solution
pub record Stays (old new : PlantDates) : Type 0 where
  pub same : new ≡ old
  pub least : AreLeastDates old

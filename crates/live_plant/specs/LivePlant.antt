-- What contracts see of a live plant that was read.
use Rattle.std.specs.Prelude.{◌≡◌, Result, Ok, Err}
use Rattle.line_graph.specs.Labels.{HasLabels}
use Rattle.plant_model.specs.declared.plant.Plant.{Plant}
use Rattle.plant_model.specs.Graph.{graph}
use Rattle.plant_model.specs.Sound.{IsSound}
use Rattle.live_plant.specs.declared.live_plant.LivePlant.{LivePlant}
use Rattle.live_plant.specs.declared.refusals.refusal.Refusal.{Refusal}

-- the plant, or the refusal where there is none
abbrev pub plant_in : Result LivePlant Refusal → Result Plant Refusal
plant_in (Ok live) = Ok live.plant
plant_in (Err refusal) = Err refusal

-- the plant is sound, the label of each station is one, and the live graph is the plant's graph
pub record IsLivePlant (live : LivePlant) : Type 0 where
  pub sound : IsSound live.plant
  pub labels : HasLabels (graph live.plant)
  pub graph : live.live.graph ≡ graph live.plant

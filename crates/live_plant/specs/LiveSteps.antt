-- The steps up to a live plant: those up to the plant, and then whether its graph is live.
use Rattle.std.specs.Prelude.{◌≡◌, ℕ, List, Bool, IsTrue, Result, Ok, Err, ⊤}
use Rattle.outside_io.specs.Calls.{Read}
use Rattle.outside_io.specs.Contents.{Contents}
use Rattle.line_base.specs.declared.event.Parts.{Parts}
use Rattle.plant_model.specs.declared.error.PlantError.{PlantError}
use Rattle.plant_model.specs.declared.plant.Plant.{Plant}
use Rattle.plant_model.specs.Graph.{graph}
use Rattle.event_graph.specs.Live.{IsLive}
use Rattle.line_graph.specs.DeadLabels.{AreDead}
use Rattle.plant_file.specs.PlantOfFiles.{plant_of}
use Rattle.live_plant.specs.declared.refusals.refusal.Refusal.{Refusal}
use Rattle.live_plant.specs.declared.refusals.refusal.Refusal.TheVariants.{Refused, Dead}
use Rattle.live_plant.specs.PlantSteps.{OfPlantFile}
use Rattle.live_plant.specs.Steps.{Step, Settles, Then}

-- a graph with a circuit without a token answers the labels of one
abbrev pub IsDeadRefusal : Parts → Refusal → Type 0
IsDeadRefusal g (Dead labels) = AreDead g labels
IsDeadRefusal g other = ⊥

-- the plant, which is live, or a circuit without a token that its graph has
abbrev pub IsLiveOrDead : Plant → Result Plant Refusal → Type 0
IsLiveOrDead p (Ok same) = (same ≡ p) × IsLive (graph p)
IsLiveOrDead p (Err refusal) = IsDeadRefusal (graph p) refusal

-- the live plant of a plant file
abbrev pub OfLivePlant : List ℕ → Step Plant
OfLivePlant name = Then (OfPlantFile name) (λ p. Settles (IsLiveOrDead p))

-- what is answered of a plant is said of this one, or of this refusal
abbrev pub IsOfPlant : Result Plant PlantError → Result Plant Refusal → Type 0
IsOfPlant plant (Ok p) = plant ≡ Ok p
IsOfPlant plant (Err (Refused error)) = plant ≡ Err error
IsOfPlant plant (Err (Dead labels)) = (p : Plant) × (plant ≡ Ok p) × AreDead (graph p) labels
IsOfPlant plant (Err other) = ⊤

-- The live plant of a plant file: what the steps answer over the bytes that the reads gave; and where a store's
-- files are known, it is the plant of these files.
pub record OfPlantNamed (tells : Bool) (files : Contents) (name : List ℕ) (reads : List Read)
    (answer : Result Plant Refusal) : Type 0 where
  pub answers : OfLivePlant name reads answer
  pub of_files : IsTrue tells → IsOfPlant (plant_of name files) answer

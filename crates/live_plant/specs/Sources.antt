-- Which plant a question is asked of, said once for all commands.
use Rattle.std.specs.Prelude.{Bool, List, Result}
use Rattle.command_line.specs.declared.plant_source.PlantSource.{PlantSource}
use Rattle.outside_io.specs.Calls.{Read}
use Rattle.outside_io.specs.Contents.{Contents}
use Rattle.live_plant.specs.LiveSteps.{OfPlantNamed}
use Rattle.live_plant.specs.declared.refusals.refusal.Refusal.{Refusal}
use Rattle.plant_model.specs.declared.plant.Plant.{Plant}

-- the live plant of its plant file
abbrev pub OfSource : Bool → Contents → PlantSource → List Read → Result Plant Refusal → Type 0
OfSource tells files source = OfPlantNamed tells files source.file

-- Which plant a question is asked of, as the words say it. Which plant that is, says `OfSource` of `live_plant`.
use Rattle.std.specs.Prelude.{ℕ, List}
use Rattle.command_line.specs.declared.plant_source.PlantSource.{PlantSource}

-- the plant of a plant file
abbrev pub plant_at : List ℕ → PlantSource
plant_at name = record { file = name }

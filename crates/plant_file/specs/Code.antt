-- For the proofs of this crate: what is built is the value that is wanted, and the names of the stages as the walk
-- gathers them.
use Rattle.std.specs.Prelude.{◌≡◌, ℕ, List, [], Result, MatchResult}
use Rattle.plant_model.specs.declared.error.PlantError.{PlantError}
use Rattle.plant_model.specs.declared.error.PlantError.TheVariants.{NoMemory}
use Rattle.plant_keys.specs.Readers.{stage_names}
use Rattle.plant_keys.specs.Rules.{names_twice}
use Rattle.toml.specs.Data.{Data}

-- what is built is the value, unless memory runs out
abbrev pub Builds : {X : Type 0} → Result X PlantError → X → Type 0
Builds r value = MatchResult r (λ x. x ≡ value) (λ e. e ≡ NoMemory)

-- where no name stands twice, these are the names of the stages
abbrev pub AreStageNames : Data → List (List ℕ) → Type 0
AreStageNames top names = names_twice top ≡ [] → names ≡ stage_names top

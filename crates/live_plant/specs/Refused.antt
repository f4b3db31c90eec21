-- The refusals to a file that can't be read, and to a plant that is refused.
use Rattle.std.specs.Prelude.{◌≡◌, ◌⊎◌, ℕ, List}
use Rattle.outside_io.specs.declared.store.StoreError.{StoreError}
use Rattle.outside_io.specs.declared.store.StoreError.TheVariants as store_error
use Rattle.plant_model.specs.declared.error.PlantError.{PlantError}
use Rattle.plant_model.specs.declared.error.PlantError.TheVariants as plant_error
use Rattle.live_plant.specs.declared.refusals.refusal.Refusal.{Refusal}
use Rattle.live_plant.specs.declared.refusals.refusal.Refusal.TheVariants.{NoMemory, Refused, StoreFault, TooLong}

-- what a file answers that a store doesn't read; no memory may come instead
abbrev pub IsFaultOf : List ℕ → StoreError → Refusal → Type 0
IsFaultOf name store_error.Failed refusal = (refusal ≡ StoreFault name) ⊎ (refusal ≡ NoMemory)
IsFaultOf name store_error.TooLong refusal = (refusal ≡ TooLong name) ⊎ (refusal ≡ NoMemory)
IsFaultOf name store_error.NoMemory refusal = refusal ≡ NoMemory

-- the refusal to a refusal
abbrev pub refusal_of : PlantError → Refusal
refusal_of plant_error.NoMemory = NoMemory
refusal_of error = Refused error

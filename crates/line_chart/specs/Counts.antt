-- What is known of a count between two dates.
use Rattle.std.specs.Prelude.{◌≡◌, ℕ, ◌+◌, ◌<◌, ◌≤◌, ◌⊎◌, ⊤, List, length, slice_index}
use Rattle.plant_model.specs.declared.plant.Plant.{Plant}
use Rattle.line_chart.specs.declared.count.Count.{Count}
use Rattle.line_chart.specs.declared.count.Count.TheVariants.{Parts, UnderWay, Backlog}

-- the stage that is counted exists
abbrev pub IsCountOf : Plant → Count → Type 0
IsCountOf p (Parts stage) = stage < length p.stages
IsCountOf p (UnderWay stage) = stage < length p.stages
IsCountOf p Backlog = ⊤

-- each of the dates, later by `late`, is at most the first date, or no less than the second
abbrev pub NoneBetween : List ℕ → ℕ → ℕ → ℕ → Type 0
NoneBetween dates late at next =
    (k : ℕ) → k < length dates → (slice_index dates k + late ≤ at) ⊎ (next ≤ slice_index dates k + late)

-- the count is the same at all dates from the first on and before the second
abbrev pub IsStill : (ℕ → ℕ) → ℕ → ℕ → Type 0
IsStill f at next = (v : ℕ) → at ≤ v → v < next → f v ≡ f at

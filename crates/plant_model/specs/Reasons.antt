-- Why a plant is refused, in words: a text for each refusal, in their order.
use Rattle.std.specs.Prelude.{ℕ, List, ◌++◌, codes, decimal}
use Rattle.plant_model.specs.declared.error.PlantError.{PlantError}
use Rattle.plant_model.specs.declared.error.PlantError.TheVariants.{NotToml, UnknownKey, Missing, WrongType, BadName, NameTwice, OutOfRange, FeedsNotLater, TwoFinals, BadRecord, TimesCount, DemandOrder, TooFewCards, LoopNotDownstream, TooLarge, NoMemory}

-- what is wrong, and where
abbrev pub at_place : List ℕ → List ℕ → List ℕ
at_place words place = words ++ (codes ": " ++ place)

-- which record of a file can't be used
abbrev pub bad_record : List ℕ → ℕ → List ℕ
bad_record file number = at_place (codes "bad record") (file ++ (codes " " ++ decimal number))

-- what is wrong, where, the number that stands there, and the one that is needed
abbrev pub with_counts : List ℕ → List ℕ → ℕ → ℕ → List ℕ
with_counts words place have need =
    words ++ (codes ": " ++ (place ++ (codes " has " ++ (decimal have ++ (codes ", needs " ++ decimal need)))))

-- why a plant is refused
abbrev pub plant_reason : PlantError → List ℕ
plant_reason NotToml = codes "not toml"
plant_reason (UnknownKey place) = at_place (codes "unknown key") place
plant_reason (Missing place) = at_place (codes "missing") place
plant_reason (WrongType place) = at_place (codes "wrong type") place
plant_reason (BadName place) = at_place (codes "bad name") place
plant_reason (NameTwice place) = at_place (codes "name twice") place
plant_reason (OutOfRange place) = at_place (codes "out of range") place
plant_reason (FeedsNotLater place) = at_place (codes "feeds no later stage") place
plant_reason (TwoFinals place) = at_place (codes "two final stages") place
plant_reason (BadRecord file number) = bad_record file number
plant_reason (TimesCount place have need) = with_counts (codes "times") place have need
plant_reason (DemandOrder job) = at_place (codes "demand order") (decimal job)
plant_reason (TooFewCards place cards stock) = with_counts (codes "too few cards") place cards stock
plant_reason (LoopNotDownstream place) = at_place (codes "loop not downstream") place
plant_reason (TooLarge what) = at_place (codes "too large") what
plant_reason NoMemory = codes "memory"

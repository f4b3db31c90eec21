-- Refusals beside what is wanted where each stands, and the lists of them over a plant file.
use Rattle.std.specs.Prelude.{ℕ, ◌+◌, if◌then◌else◌, List, [], ◌∷◌, ◌++◌, map}
use Rattle.plant_model.specs.declared.error.PlantError.{PlantError}
use Rattle.plant_model.specs.Refusals.{is_reserved}
use Rattle.toml.specs.Data.{Data}
use Rattle.plant_keys.specs.declared.keys.Kind.{Kind}
use Rattle.plant_keys.specs.declared.keys.Kind.TheVariants.{PolicyWord, StageName, MachineName, FileName, StageReference, Number, Numbers, Tables}
use Rattle.plant_keys.specs.declared.keys.Class.{Class}
use Rattle.plant_keys.specs.declared.keys.Class.TheVariants.{UnknownKeys, MissingKeys, WrongTypes, BadNames, OutOfRanges}
use Rattle.plant_keys.specs.Readers.{is_filled, elements_of, text_of}
use Rattle.plant_keys.specs.declared.fault.Wants.{Wants}
use Rattle.plant_keys.specs.declared.fault.Wants.TheVariants as wants
use Rattle.plant_keys.specs.declared.fault.Fault.{Fault}

-- refusals, at each of which the same is wanted
abbrev pub wanting : Wants → List PlantError → List Fault
wanting what refusals = map (λ error. record { error = error; wants = what }) refusals

-- the refusals of faults, without what is wanted
abbrev pub errors : List Fault → List PlantError
errors faults = map (λ f. f.error) faults

-- refusals that say all
abbrev pub plain : List PlantError → List Fault
plain refusals = wanting wants.Nothing refusals

-- what `f` gives for each element and its number, from number k on
abbrev pub all_from : {X A : Type 0} → (ℕ → X → List A) → ℕ → List X → List A
all_from f k [] = []
all_from f k (x ∷ xs) = f k x ++ all_from f (k + 1) xs

-- what `f` gives for each element and its number
abbrev pub all_of : {X A : Type 0} → (ℕ → X → List A) → List X → List A
all_of f xs = all_from f 0 xs

-- what is found in a row of a list, by its number
abbrev pub RowFaults : Type 0
RowFaults = ℕ → Data → List Fault

-- what a value of a kind has to be
abbrev pub wanted_type : Kind → Wants
wanted_type PolicyWord = wants.AText
wanted_type StageName = wants.AText
wanted_type MachineName = wants.AText
wanted_type FileName = wants.AText
wanted_type StageReference = wants.AText
wanted_type (Number least most) = wants.ANumber
wanted_type (Numbers most may_be_empty) = wants.ListOfNumbers
wanted_type (Tables may_be_empty) = wants.ListOfTables

-- what a name of a kind has to be, where this text stands
abbrev pub wanted_name : Kind → List ℕ → Wants
wanted_name PolicyWord text = wants.Nothing
wanted_name StageName text = if is_reserved text then wants.FreeName else wants.AName
wanted_name MachineName text = wants.AName
wanted_name FileName text = wants.AFileName
wanted_name StageReference text = wants.Nothing
wanted_name (Number least most) text = wants.Nothing
wanted_name (Numbers most may_be_empty) text = wants.Nothing
wanted_name (Tables may_be_empty) text = wants.Nothing

-- within which limits a value of a kind has to be, where this value stands
abbrev pub wanted_range : Kind → Data → Wants
wanted_range PolicyWord v = wants.APolicy
wanted_range StageName v = wants.Nothing
wanted_range MachineName v = wants.Nothing
wanted_range FileName v = wants.Nothing
wanted_range StageReference v = wants.Nothing
wanted_range (Number least most) v = wants.Between least most
wanted_range (Numbers most may_be_empty) v = if is_filled (elements_of v) then wants.Between 0 most else wants.AnElement
wanted_range (Tables may_be_empty) v = wants.AnElement

-- what is wanted where a class refuses the value at a key
abbrev pub wants_of : Class → Kind → Data → Wants
wants_of UnknownKeys kind v = wants.Nothing
wants_of MissingKeys kind v = wants.Nothing
wants_of WrongTypes kind v = wanted_type kind
wants_of BadNames kind v = wanted_name kind (text_of v)
wants_of OutOfRanges kind v = wanted_range kind v

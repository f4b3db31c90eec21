-- What the values of the code stand for.
use Rattle.std.specs.Prelude.{ℕ, Bool, if◌then◌else◌, List, [], ◌∷◌, ◌++◌, map, bytes_eq}
use Rattle.std.specs.List.{list_any}
use Rattle.plant_model.specs.declared.error.PlantError.{PlantError}
use Rattle.plant_model.specs.declared.error.PlantError.TheVariants.{UnknownKey, Missing, WrongType, BadName, OutOfRange}
use Rattle.toml.specs.Data.{Data}
use Rattle.toml.specs.View.{view}
use Rattle.toml.specs.declared.value.Value.{Value}
use Rattle.plant_keys.specs.Keys.{Key}
use Rattle.plant_keys.specs.Readers.{is_number, is_table}
use Rattle.plant_keys.specs.declared.keys.Key as code_key
use Rattle.plant_keys.specs.declared.keys.Class.{Class}
use Rattle.plant_keys.specs.declared.keys.Class.TheVariants.{UnknownKeys, MissingKeys, WrongTypes, BadNames, OutOfRanges}
use Rattle.plant_keys.specs.declared.values.Element.{Element}
use Rattle.plant_keys.specs.declared.values.Element.TheVariants.{Number, Table}

-- a key of the code
abbrev pub key_of : code_key.Key → Key
key_of k = record { name = k.name.now; kind = k.kind; required = k.required; excluded = k.excluded }

-- values as data
abbrev pub views : List Value → List Data
views vs = map view vs

-- keys of the code
abbrev pub keys_of : List code_key.Key → List Key
keys_of ks = map key_of ks

-- what an element of a kind is
abbrev pub is_element : Element → Data → Bool
is_element Number v = is_number v
is_element Table v = is_table v

-- the refusal of a class at a path
abbrev pub refusal : Class → List ℕ → PlantError
refusal UnknownKeys place = UnknownKey place
refusal MissingKeys place = Missing place
refusal WrongTypes place = WrongType place
refusal BadNames place = BadName place
refusal OutOfRanges place = OutOfRange place

-- names that differ, with one more at the end, unless it is among them
abbrev pub with_name : List ℕ → List (List ℕ) → List (List ℕ)
with_name name names = if list_any (bytes_eq name) names then names else names ++ name ∷ []

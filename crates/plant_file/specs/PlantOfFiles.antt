-- The plant of files: what the bytes of all files of a plant say.
use Rattle.std.specs.Prelude.{◌≡◌, ℕ, List, [], ◌∷◌, ◌++◌, Option, option_map, unwrap_or, Result, Ok, Err}
use Rattle.std.specs.Option.{option_to_list}
use Rattle.plant_model.specs.declared.error.PlantError.{PlantError}
use Rattle.plant_model.specs.declared.plant.Plant.{Plant}
use Rattle.plant_file.specs.declared.draft.DraftPlant.{DraftPlant}
use Rattle.plant_file.specs.Draft.{demands_file}
use Rattle.plant_file.specs.Finish.{completed_plant}
use Rattle.plant_file.specs.Reading.{reading}

-- the bytes of each file that is there, by its name
abbrev pub Contents : Type 0
Contents = List ℕ → Option (List ℕ)

-- the bytes of a file, which is there
abbrev pub bytes_at : Contents → List ℕ → List ℕ
bytes_at files name = unwrap_or (files name) []

-- the bytes of a file that a plant file may name
abbrev pub bytes_of : Contents → Option (List ℕ) → Option (List ℕ)
bytes_of files name = option_map (bytes_at files) name

-- what the reading of a plant file answers, with the files that it names
abbrev pub plant_of_reading : Contents → Result DraftPlant PlantError → Result Plant PlantError
plant_of_reading files (Ok d) = completed_plant d (bytes_of files (demands_file d)) (bytes_of files d.times_file)
plant_of_reading files (Err refusal) = Err refusal

-- the sound plant of a plant file, or its first refusal, each class before the next; it has a meaning where each file
-- that is needed is there
unfoldable pub plant_of : List ℕ → Contents → Result Plant PlantError
plant_of name files = plant_of_reading files (reading (bytes_at files name))

-- the names of the files that the reading of a plant file needs beside it
abbrev pub files_of_reading : Result DraftPlant PlantError → List (List ℕ)
files_of_reading (Ok d) = option_to_list (demands_file d) ++ option_to_list d.times_file
files_of_reading (Err refusal) = []

-- the names of the files that are needed, in the order in which they are looked at
abbrev pub files_needed : List ℕ → Contents → List (List ℕ)
files_needed name files = name ∷ files_of_reading (reading (bytes_at files name))

-- the draft is that of the named file, and the bytes are those of the files that it names
pub record IsReadFrom (name : List ℕ) (files : Contents) (d : DraftPlant) (demands times : Option (List ℕ))
    : Type 0 where
  pub plant : reading (bytes_at files name) ≡ Ok d
  pub demand_bytes : demands ≡ bytes_of files (demands_file d)
  pub times_bytes : times ≡ bytes_of files d.times_file

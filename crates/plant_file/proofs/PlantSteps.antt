-- The plant of files, step by step, for those that read them.
use Rattle.std.proofs.Common.{◌≡◌, ℕ, List, Option, Err, ap, ◌∙◌, refl}
use Rattle.plant_model.specs.declared.error.PlantError.{PlantError}
use Rattle.plant_file.specs.declared.draft.DraftPlant.{DraftPlant}
use Rattle.plant_file.specs.Finish.{completed_plant}
use Rattle.plant_file.specs.PlantOfFiles.{Contents, bytes_at, plant_of_reading, plant_of, IsReadFrom}
use Rattle.plant_file.specs.Reading.{reading}

-- where the plant file is refused, the plant of the files is
pub plant_of-refused : (name : List ℕ) (files : Contents) (refusal : PlantError) → reading (bytes_at files name) ≡ Err refusal → plant_of name files ≡ Err refusal
unfolding plant_of
plant_of-refused name files refusal read = ap (plant_of_reading files) read

-- where it is a draft, the plant of the files is that of the draft and of the bytes of its files
pub plant_of-completed : (name : List ℕ) (files : Contents) (d : DraftPlant) (demands times : Option (List ℕ)) → IsReadFrom name files d demands times → plant_of name files ≡ completed_plant d demands times
unfolding plant_of
plant_of-completed name files d demands times read =
    ap (plant_of_reading files) read.plant ∙ rw (read.demand_bytes, read.times_bytes) refl

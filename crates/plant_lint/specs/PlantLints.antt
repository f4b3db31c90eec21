-- What lint says of a plant whose parts are right.
use Rattle.std.specs.Prelude.{ℕ, List, ◌++◌, Option, codes}
use Rattle.plant_model.specs.declared.plant.Plant.{Plant}
use Rattle.plant_model.specs.Refusals.{whole_refusals}
use Rattle.plant_lint.specs.declared.lint.Lint.{Lint}
use Rattle.plant_keys.specs.Faults.{plain}
use Rattle.plant_lint.specs.FileLints.{faults_or_notes}
use Rattle.plant_lint.specs.Remarks.{plant_remark}
use Rattle.plant_check.specs.PlantNotes.{plant_notes}

-- of a plant whose dates stand in this file, if they stand in one: the refusals 11 to 15, and where there is none its
-- notes
abbrev pub lint_of_plant : Option (List ℕ) → Plant → Lint
lint_of_plant file p = faults_or_notes (plant_remark p) (plain (whole_refusals p)) (plant_notes file p)

-- what is written where nothing is wrong, with the notes of the file and of the plant
abbrev pub clean_text : List ℕ → List ℕ → List ℕ
clean_text of_file of_plant = codes "no fault\n" ++ (of_file ++ of_plant)

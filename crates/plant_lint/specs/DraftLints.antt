-- What lint says of a draft, which nothing is wrong with by itself, and of the bytes of the files that it names.
use Rattle.std.specs.Prelude.{◌≡◌, ℕ, List, [], ◌∷◌, Option}
use Rattle.plant_file.specs.declared.draft.DraftPlant.{DraftPlant}
use Rattle.plant_file.specs.Draft.{demands_file}
use Rattle.plant_file.specs.Finish.{plant_of_bytes}
use Rattle.plant_model.specs.declared.plant.Plant.{Plant}
use Rattle.plant_model.specs.Sound.{IsSound}
use Rattle.plant_lint.specs.declared.draft_lint.DraftLint.{DraftLint}
use Rattle.plant_lint.specs.declared.draft_lint.DraftLint.TheVariants as draft
use Rattle.plant_keys.specs.declared.fault.Fault.{Fault}
use Rattle.plant_lint.specs.declared.lint.Lint.{Lint}
use Rattle.plant_lint.specs.declared.lint.Lint.TheVariants.{Refused, Sound}
use Rattle.plant_lint.specs.PlantLints.{lint_of_plant}
use Rattle.plant_lint.specs.Records.{record_faults}
use Rattle.plant_lint.specs.Remarks.{no_remark}
use Rattle.plant_lint.specs.Texts.{fault_lines}

-- the lines of the faults, and where there is none what else is said
abbrev pub faults_or : List Fault → Lint → Lint
faults_or [] more = more
faults_or (fault ∷ faults) more = Refused (fault_lines no_remark (fault ∷ faults))

-- the bad records of its files, and where there is none what is said of its plant
abbrev pub lint_of_draft : DraftPlant → Option (List ℕ) → Option (List ℕ) → Lint
lint_of_draft d demands times =
    faults_or (record_faults d demands times) (lint_of_plant (demands_file d) (plant_of_bytes d demands times))

-- that is said, and where nothing is wrong the plant is handed on
abbrev pub LintsDraft : DraftPlant → Option (List ℕ) → Option (List ℕ) → DraftLint → Type 0
LintsDraft d demands times (draft.Refused lines) = lint_of_draft d demands times ≡ Refused lines
LintsDraft d demands times (draft.Sound plant notes) =
    (lint_of_draft d demands times ≡ Sound notes) × (plant ≡ plant_of_bytes d demands times) × IsSound plant

-- the same of a plant whose parts are right, and whose dates stand in this file, if they stand in one
abbrev pub LintsWhole : Option (List ℕ) → Plant → DraftLint → Type 0
LintsWhole file p (draft.Refused lines) = lint_of_plant file p ≡ Refused lines
LintsWhole file p (draft.Sound plant notes) = (lint_of_plant file p ≡ Sound notes) × (plant ≡ p) × IsSound plant

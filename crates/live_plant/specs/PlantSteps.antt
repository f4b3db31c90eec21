-- The steps up to a plant: which files are read, in which order, and what they answer over the bytes that the reads
-- gave. The first refusal ends the command.
use Rattle.std.specs.Prelude.{◌≡◌, ◌≤◌, ℕ, List, length, is_some, IfSome, Result, Ok, Err}
use Rattle.line_base.specs.declared.limits.TheConstants.{MAX_CHECKPOINT_BYTES}
use Rattle.plant_model.specs.declared.error.PlantError.{PlantError}
use Rattle.plant_model.specs.declared.plant.Plant.{Plant}
use Rattle.plant_file.specs.declared.draft.DraftPlant.{DraftPlant}
use Rattle.plant_file.specs.Draft.{demands_file}
use Rattle.plant_file.specs.Finish.{completed_plant}
use Rattle.plant_file.specs.Reading.{reading}
use Rattle.live_plant.specs.declared.files.NamedFiles.{NamedFiles}
use Rattle.live_plant.specs.declared.refusals.refusal.Refusal.{Refusal}
use Rattle.live_plant.specs.declared.refusals.refusal.Refusal.TheVariants.{Refused}
use Rattle.live_plant.specs.Steps.{Step, Gives, LooksAt, Then, LooksAtNamed}

-- a refusal of a plant ends the command
abbrev pub or_refused : {A : Type 0} → Result A PlantError → Result A Refusal
or_refused (Ok x) = Ok x
or_refused (Err error) = Err (Refused error)

-- the files of a draft, each read where it is named: that of the demands, then that of the times
abbrev pub LooksAtFilesOf : DraftPlant → Step NamedFiles
LooksAtFilesOf d =
    Then (LooksAtNamed (demands_file d)) (λ demands.
    Then (LooksAtNamed d.times_file) (λ times.
    Gives (Ok (record { demands = demands; times = times }))))

-- the bytes of these files: each exactly where the draft names it, of the times at most those of a checkpoint
pub record AreNamedBy (d : DraftPlant) (files : NamedFiles) : Type 0 where
  pub demands_where_used : is_some files.demands ≡ is_some (demands_file d)
  pub times_where_used : is_some files.times ≡ is_some d.times_file
  pub times_size : IfSome files.times (λ bytes. length bytes ≤ MAX_CHECKPOINT_BYTES)

-- the plant of a draft: its demand file, then its times file, where it names them, then the refusals 10 to 15
abbrev pub OfDraft : DraftPlant → Step Plant
OfDraft d =
    Then (LooksAtNamed (demands_file d)) (λ demands.
    Then (LooksAtNamed d.times_file) (λ times.
    Gives (or_refused (completed_plant d demands times))))

-- the draft of the bytes of a plant file, or one of the refusals 1 to 9
abbrev pub OfBytes : List ℕ → Step DraftPlant
OfBytes bytes = Gives (or_refused (reading bytes))

-- the plant of a plant file: the file, then its draft, then what that answers
abbrev pub OfPlantFile : List ℕ → Step Plant
OfPlantFile name = Then (LooksAt name) (λ bytes. Then (OfBytes bytes) OfDraft)

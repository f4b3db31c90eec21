-- What lint reads of a plant file and of the files that it names, in which order, and what it says of them.
use Rattle.std.specs.Prelude.{◌≡◌, ℕ, List, Option, Result, Ok, Err}
use Rattle.event_graph.specs.Live.{IsLive}
use Rattle.plant_file.specs.Draft.{demands_file}
use Rattle.plant_file.specs.Reading.{reading}
use Rattle.plant_file.specs.Finish.{plant_of_bytes}
use Rattle.plant_lint.specs.DraftLints.{lint_of_draft}
use Rattle.plant_lint.specs.FileLints.{LintsFile}
use Rattle.plant_lint.specs.PlantLints.{clean_text}
use Rattle.plant_lint.specs.declared.lint.Lint.{Lint}
use Rattle.plant_lint.specs.declared.lint.Lint.TheVariants as lint
use Rattle.plant_model.specs.declared.plant.Plant.{Plant}
use Rattle.plant_model.specs.Graph.{graph}
use Rattle.live_plant.specs.declared.refusals.refusal.Refusal.{Refusal}
use Rattle.live_plant.specs.declared.refusals.refusal.Refusal.TheVariants.{Faults}
use Rattle.live_plant.specs.LiveSteps.{IsDeadRefusal}
use Rattle.live_plant.specs.Steps.{Step, Settles, LooksAt, LooksAtNamed, Then}
use Rattle.live_plant.specs.declared.sound_file.SoundFile.{SoundFile}

-- a file of which something is said is refused with these lines
abbrev pub IsRefusedWith : Lint → Refusal → Type 0
IsRefusedWith (lint.Refused lines) refusal = refusal ≡ Faults lines
IsRefusedWith (lint.Sound notes) refusal = ⊥

-- what lint says of bytes that it refuses
pub record IsRefusedFile (bytes : List ℕ) (refusal : Refusal) : Type 0 where
  pub said : Lint
  pub lints : LintsFile bytes said
  pub refused : IsRefusedWith said refusal

-- the bytes of a plant file: where they stop being TOML, or their faults; and else their notes and what they say
abbrev pub IsFileLint : List ℕ → Result SoundFile Refusal → Type 0
IsFileLint bytes (Ok file) = LintsFile bytes (lint.Sound file.notes) × (reading bytes ≡ Ok file.draft)
IsFileLint bytes (Err refusal) = IsRefusedFile bytes refusal

-- a plant that nothing is refused of: that there is no fault, with the notes, where its graph is live, and else a
-- circuit without a token
abbrev pub IsCleanOrDead : Plant → List ℕ → Result (List ℕ) Refusal → Type 0
IsCleanOrDead p text (Ok same) = (same ≡ text) × IsLive (graph p)
IsCleanOrDead p text (Err refusal) = IsDeadRefusal (graph p) refusal

-- what is answered by what lint says of a plant
abbrev pub IsSaid : Plant → List ℕ → Lint → Result (List ℕ) Refusal → Type 0
IsSaid p notes (lint.Refused lines) answer = answer ≡ Err (Faults lines)
IsSaid p notes (lint.Sound more) answer = IsCleanOrDead p (clean_text notes more) answer

-- the bytes of the files that a sound plant file names: their first bad records; then what is wrong with the plant as a
-- whole; then whether it is live
abbrev pub IsDraftLint : SoundFile → Option (List ℕ) → Option (List ℕ) → Result (List ℕ) Refusal → Type 0
IsDraftLint file demands times =
    IsSaid (plant_of_bytes file.draft demands times) file.notes (lint_of_draft file.draft demands times)

-- a sound plant file: its demand file, then its times file, where it names them
abbrev pub LintsDraft : SoundFile → Step (List ℕ)
LintsDraft file =
    Then (LooksAtNamed (demands_file file.draft)) (λ demands.
    Then (LooksAtNamed file.draft.times_file) (λ times.
    Settles (IsDraftLint file demands times)))

-- lint of a plant file: the file, and where nothing is wrong with it by itself the files that it names. What is
-- answered is what is written with status 0, or a refusal: all lines with status 3, a dead circuit with status 4.
abbrev pub LintsPlant : List ℕ → Step (List ℕ)
LintsPlant name = Then (LooksAt name) (λ bytes. Then (Settles (IsFileLint bytes)) LintsDraft)

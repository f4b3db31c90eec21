-- What lint says of the bytes of a plant file by themselves.
use Rattle.std.specs.Prelude.{◌≡◌, ℕ, ◌≤◌, List, [], ◌∷◌, length, take, drop, MatchOption, Ok}
use Rattle.toml.specs.Data.{Data}
use Rattle.plant_file.specs.Reading.{reading, tree_of, tree_reading}
use Rattle.plant_keys.specs.declared.fault.Fault.{Fault}
use Rattle.plant_lint.specs.declared.file.FileLint.{FileLint}
use Rattle.plant_lint.specs.declared.file.FileLint.TheVariants as file
use Rattle.plant_lint.specs.declared.lint.Lint.{Lint}
use Rattle.plant_lint.specs.declared.lint.Lint.TheVariants.{Refused, Sound}
use Rattle.plant_lint.specs.Headers.{no_toml_line}
use Rattle.plant_lint.specs.Remarks.{Remark, file_remark}
use Rattle.plant_lint.specs.Texts.{fault_lines}
use Rattle.plant_keys.specs.Walk.{tree_faults}
use Rattle.plant_lint.specs.Unused.{unused_lines}

-- the lines of the faults, with what is said behind each, and where there is none the notes
abbrev pub faults_or_notes : Remark → List Fault → List ℕ → Lint
faults_or_notes remark [] notes = Sound notes
faults_or_notes remark (fault ∷ faults) notes = Refused (fault_lines remark (fault ∷ faults))

-- of a tree
abbrev pub lint_of_tree : Data → Lint
lint_of_tree top = faults_or_notes (file_remark top) (tree_faults top) (unused_lines top)

-- of bytes that are no TOML: the reader's error begins at one of them, or at their end
pub record IsNoToml (bytes : List ℕ) (lint : Lint) : Type 0 where
  pub begins : ℕ
  pub within : begins ≤ length bytes
  pub line : lint ≡ Refused (no_toml_line (take begins bytes) (drop begins bytes))

-- of bytes
abbrev pub LintsFile : List ℕ → Lint → Type 0
LintsFile bytes lint = MatchOption (tree_of bytes) (IsNoToml bytes lint) (λ top. lint ≡ lint_of_tree top)

-- the reading of a tree, with what lint says of it
abbrev pub ReadsTree : Data → FileLint → Type 0
ReadsTree top (file.Refused lines) = lint_of_tree top ≡ Refused lines
ReadsTree top (file.Sound draft notes) = (lint_of_tree top ≡ Sound notes) × (tree_reading top ≡ Ok draft)

-- the reading of bytes, with what lint says of them
abbrev pub ReadsFile : List ℕ → FileLint → Type 0
ReadsFile bytes (file.Refused lines) = LintsFile bytes (Refused lines)
ReadsFile bytes (file.Sound draft notes) = LintsFile bytes (Sound notes) × (reading bytes ≡ Ok draft)

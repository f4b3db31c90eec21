-- That lint finds nothing wrong with a file exactly where it is read.
use Rattle.std.proofs.Common.{◌≡◌, ℕ, List, [], ◌∷◌, Option, None, Some, is_ok, refl, ap, ◌∙◌}
use Rattle.std.specs.Prelude.{Err, MatchOption}
use Rattle.std.specs.Option.{option_map_or}
use Rattle.plant_model.specs.declared.error.PlantError.TheVariants.{NotToml}
use Rattle.toml.specs.Data.{Data}
use Rattle.plant_file.specs.declared.draft.DraftPlant.{DraftPlant}
use Rattle.plant_file.specs.Reading.{draft_of, draft_or_first, tree_of, tree_reading, reading}
use Rattle.plant_keys.specs.declared.fault.Fault.{Fault}
use Rattle.plant_lint.specs.declared.lint.Lint.{Lint}
use Rattle.plant_lint.specs.FileLints.{faults_or_notes, lint_of_tree, IsNoToml, LintsFile}
use Rattle.plant_lint.specs.Laws.{is_sound}
use Rattle.plant_keys.specs.Faults.{errors}
use Rattle.plant_keys.specs.Walk.{tree_faults}
use Rattle.plant_lint.specs.Remarks.{Remark, file_remark}
use Rattle.plant_lint.specs.Unused.{unused_lines}

sound_by : (remark : Remark) (faults : List Fault) (notes : List ℕ) (draft : DraftPlant) → is_sound (faults_or_notes remark faults notes) ≡ is_ok (draft_or_first (errors faults) draft)
sound_by remark [] notes draft = refl
sound_by remark (fault ∷ faults) notes draft = refl

sound_tree : (top : Data) → is_sound (lint_of_tree top) ≡ is_ok (tree_reading top)
sound_tree top = sound_by (file_remark top) (tree_faults top) (unused_lines top) (draft_of top)

sound_tree_of : (bytes : List ℕ) (tree : Option Data) (lint : Lint) → MatchOption tree (IsNoToml bytes lint) (λ top. lint ≡ lint_of_tree top) → is_sound lint ≡ is_ok (option_map_or tree_reading tree (Err NotToml))
sound_tree_of bytes None lint h = ap is_sound h.line
sound_tree_of bytes (Some top) lint h = ap is_sound h ∙ sound_tree top

pub sound_where_read : (bytes : List ℕ) (lint : Lint) → LintsFile bytes lint → is_sound lint ≡ is_ok (reading bytes)
unfolding reading
sound_where_read bytes lint h = sound_tree_of bytes (tree_of bytes) lint h

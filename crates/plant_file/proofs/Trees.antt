-- The tree that bytes are, from what toml's reader answers, and the exits of the reader of a tree.
use Rattle.std.proofs.Common.{◌≡◌, ◌≢◌, ℕ, List, [], ◌∷◌, ◌++◌, Bool, true, false, cond, Option, Some, None, option_map, Result, Ok, Err, refl, ap, sym}
use Rattle.std.specs.Str.{IsUtf8, is_utf8}
use Rattle.std.proofs.lemmas.Str.{IsUtf8-from_is_utf8, is_utf8-from_IsUtf8}
use Rattle.plant_model.specs.declared.error.PlantError.{PlantError}
use Rattle.plant_model.specs.declared.error.PlantError.TheVariants.{NoMemory}
use Rattle.plant_model.specs.Refusals.{first}
use Rattle.toml.specs.Data.{Members, table}
use Rattle.toml.specs.Parse.{parse_document}
use Rattle.plant_file.specs.declared.draft.DraftPlant.{DraftPlant}
use Rattle.plant_file.specs.Code.{Builds}
use Rattle.plant_file.specs.Reading.{tree_of, draft_or_first, AnswersReading}

-- text that is read is the tree
pub tree_of_text : (bytes : List ℕ) (tree : Members) → IsUtf8 bytes × (parse_document bytes ≡ Some tree) → tree_of bytes ≡ Some (table tree)
tree_of_text bytes tree read = rw (is_utf8-from_IsUtf8 bytes read.0, read.1) refl

no_tree_by : (bytes : List ℕ) (b : Bool) → is_utf8 bytes ≡ b → (IsUtf8 bytes → parse_document bytes ≡ None) → cond b (option_map table (parse_document bytes)) None ≡ None
no_tree_by bytes true is refused = rw (refused (IsUtf8-from_is_utf8 bytes is)) refl
no_tree_by bytes false is refused = refl

-- bytes that are refused, or no text, are no tree
pub tree_of_refused : (bytes : List ℕ) → (IsUtf8 bytes → parse_document bytes ≡ None) → tree_of bytes ≡ None
tree_of_refused bytes refused = no_tree_by bytes (is_utf8 bytes) refl refused

none_is_some : {e : PlantError} → ◌≡◌ {A = Option PlantError} None (Some e) → ⊥
none_is_some h = cc

some_same : {x e : PlantError} → ◌≡◌ {A = Option PlantError} (Some x) (Some e) → x ≡ e
some_same h = cc

-- the first refusal is the answer
pub first_answers : (refusals : List PlantError) (d : DraftPlant) (e : PlantError) → (e ≢ NoMemory → first refusals ≡ Some e) → AnswersReading (Err e) (draft_or_first refusals d)
first_answers [] d e named = λ ne. absurd (none_is_some (named ne))
first_answers (x ∷ xs) d e named = λ ne. ap Err (some_same (named ne))

-- what is built is the reading, where nothing is refused
pub builds_reading : (r : Result DraftPlant PlantError) (d : DraftPlant) → Builds r d → AnswersReading r (draft_or_first [] d)
builds_reading (Ok x) d h = ap Ok (sym h)
builds_reading (Err e) d h = λ ne. absurd (ne h)

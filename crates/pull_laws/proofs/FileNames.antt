-- What a draft that was read says of names and limits: it names no checkpoint, so files that differ in checkpoints
-- alone have one plant; and it is sound.
use Rattle.std.proofs.Common.{◌≡◌, ℕ, Bool, true, false, not, ◌&&◌, List, [], ◌∷◌, get_or, refl, ap, ◌∙◌, subst, codes, arith}
use Rattle.std.proofs.Common.{if◌then◌else◌}
use Rattle.std.specs.Prelude.{Option, Some, None, Result, Ok, Err, IfSome, unwrap_or}
use Rattle.std.specs.Option.{option_map_or}
use Rattle.line_base.specs.Text.{is_file_name, is_checkpoint_name}
use Rattle.plant_model.specs.declared.error.PlantError.{PlantError}
use Rattle.plant_model.specs.declared.error.PlantError.TheVariants.{NotToml}
use Rattle.plant_model.specs.declared.place.FileTable.TheVariants.{Top}
use Rattle.plant_model.proofs.NoRefusals.{append-nil_left, refuse_if-none}
use Rattle.toml.specs.Data.{Data, get}
use Rattle.plant_keys.specs.declared.keys.Class.TheVariants.{BadNames}
use Rattle.plant_keys.specs.declared.keys.Kind.TheVariants.{StageReference, FileName}
use Rattle.plant_keys.specs.Keys.{Key, optional, top_keys, has_column}
use Rattle.plant_keys.specs.Readers.{has, text_of, text_at}
use Rattle.plant_keys.specs.Rules.{value_refusals}
use Rattle.plant_keys.specs.Walk.{key_faults, table_faults, walk_faults, tree_faults}
use Rattle.plant_file.specs.declared.draft.DraftDemands.TheVariants.{Given, File}
use Rattle.plant_file.specs.declared.draft.DraftPlant.{DraftPlant}
use Rattle.plant_file.specs.Draft.{file_of, demands_file, IsSoundDraft}
use Rattle.plant_file.proofs.NoFaults.{all_of-none, key-none, no_errors, no_faults}
use Rattle.plant_file.proofs.SoundDrafts.{sound_draft}
use Rattle.plant_file.specs.Reading.{column_at, draft_of, tree_refusals, draft_or_first, tree_of, tree_reading}
use Rattle.plant_file.specs.Reading.{reading}
use Rattle.plant_file.specs.Finish.{completed_plant}
use Rattle.plant_file.specs.PlantOfFiles.{Contents, bytes_at, bytes_of, plant_of_reading, plant_of}

-- a name that no checkpoint has
abbrev pub IsPlain : List ℕ → Type 0
IsPlain name = is_checkpoint_name name ≡ false

plain_of : (may ends own : Bool) → (may && not ends && not own) ≡ true → (may && ends) ≡ false
plain_of true true own h = absurd (cc)
plain_of true false own h = refl
plain_of false ends own h = refl

-- so is the name of any other file
pub file_is_plain : (name : List ℕ) → is_file_name name ≡ true → IsPlain name
file_is_plain name h = plain_of _ _ _ h

not_false : (b : Bool) → not b ≡ false → b ≡ true
not_false true h = refl
not_false false h = absurd (cc)

-- the text at a key for a file's name, where no name is bad
named_plain : (place : List ℕ) (o : Option Data) → option_map_or (value_refusals BadNames FileName place) o [] ≡ [] →
    IsPlain (option_map_or text_of o [])
named_plain place None h = refl
named_plain place (Some v) h =
    file_is_plain (text_of v) (not_false (is_file_name (text_of v))
    (refuse_if-none (not (is_file_name (text_of v))) _ h))

no_key : Key
no_key = optional [] StageReference

-- a draft that names no checkpoint
pub record NamesNoCheckpoint (d : DraftPlant) : Type 0 where
  pub demands : IfSome (demands_file d) IsPlain
  pub times : IfSome d.times_file IsPlain

demands_plain : (given : Bool) (dates name : List ℕ) (column : ℕ) → IsPlain name →
    IfSome (file_of (if given then Given dates else File name column)) IsPlain
demands_plain true dates name column plain = tt
demands_plain false dates name column plain = plain

times_plain : (used : Bool) (name : List ℕ) → IsPlain name → IfSome (if used then Some name else None) IsPlain
times_plain true name plain = plain
times_plain false name plain = tt

top_of_walk : (top : Data) → walk_faults BadNames top ≡ [] → table_faults BadNames Top top (top_keys top) ≡ []
unfolding walk_faults
top_of_walk top h = append-nil_left (table_faults BadNames Top top (top_keys top)) _ h

draft_names : (top : Data) → walk_faults BadNames top ≡ [] → NamesNoCheckpoint (draft_of top)
draft_names top h =
    let keys = top_of_walk top h in
    let demands =
    key-none BadNames Top top (get_or (top_keys top) 4 no_key)
    (all_of-none (λ _ k. key_faults BadNames Top top k) (top_keys top) 4 no_key (omega arith) keys) in
    let times =
    key-none BadNames Top top (get_or (top_keys top) 9 no_key)
    (all_of-none (λ _ k. key_faults BadNames Top top k) (top_keys top) 9 no_key (omega arith) keys) in
    record {
      demands = demands_plain (has (codes "demands") top) _ (text_at (codes "demands_file") top)
          (column_at (codes "demands_column") top) (named_plain _ (get (codes "demands_file") top) demands);
      times = times_plain (has_column top) (text_at (codes "times_file") top)
          (named_plain _ (get (codes "times_file") top) times);
    }

-- a draft that is answered is the draft, and nothing is refused
none_refused : (rs : List PlantError) (draft d : DraftPlant) → draft_or_first rs draft ≡ Ok d → rs ≡ []
none_refused [] draft d is = refl
none_refused (r ∷ rs) draft d is = absurd (cc)

same_draft : (rs : List PlantError) (draft d : DraftPlant) → draft_or_first rs draft ≡ Ok d → draft ≡ d
same_draft [] draft d is = cc
same_draft (r ∷ rs) draft d is = absurd (cc)

tree_names : (o : Option Data) (d : DraftPlant) → option_map_or tree_reading o (Err NotToml) ≡ Ok d →
    NamesNoCheckpoint d
tree_names None d is = absurd (cc)
tree_names (Some top) d is =
    subst NamesNoCheckpoint (same_draft (tree_refusals top) (draft_of top) d is)
    (draft_names top (no_faults top (no_errors (tree_faults top) (none_refused (tree_refusals top) (draft_of top) d is))).bad)

-- a draft that was read names no checkpoint
pub reading_names : (bytes : List ℕ) (d : DraftPlant) → reading bytes ≡ Ok d → NamesNoCheckpoint d
unfolding reading
reading_names bytes d is = tree_names (tree_of bytes) d is

-- a draft in which nothing is refused is sound
tree_sound : (top : Data) → tree_refusals top ≡ [] → IsSoundDraft (draft_of top)
tree_sound top h = sound_draft top (no_errors (tree_faults top) h)

answered_sound : (rs : List PlantError) (draft d : DraftPlant) → (rs ≡ [] → IsSoundDraft draft) →
    draft_or_first rs draft ≡ Ok d → IsSoundDraft d
answered_sound [] draft d sound is = let same : draft ≡ d = cc in subst IsSoundDraft same (sound refl)
answered_sound (r ∷ rs) draft d sound is = absurd (cc)

read_sound : (o : Option Data) (d : DraftPlant) → option_map_or tree_reading o (Err NotToml) ≡ Ok d → IsSoundDraft d
read_sound None d is = absurd (cc)
read_sound (Some top) d is = answered_sound (tree_refusals top) (draft_of top) d (tree_sound top) is

pub reading_sound : (bytes : List ℕ) (d : DraftPlant) → reading bytes ≡ Ok d → IsSoundDraft d
unfolding reading
reading_sound bytes d is = read_sound (tree_of bytes) d is

module _ (a b : Contents) (agree : (q : List ℕ) → IsPlain q → a q ≡ b q) where
  bytes_same : (o : Option (List ℕ)) → IfSome o IsPlain → bytes_of a o ≡ bytes_of b o
  bytes_same None plain = refl
  bytes_same (Some name) plain = ap (λ (o : Option (List ℕ)). Some (unwrap_or o [])) (agree name plain)

  reading_same : (r : Result DraftPlant PlantError) → ((d : DraftPlant) → r ≡ Ok d → NamesNoCheckpoint d) →
      plant_of_reading a r ≡ plant_of_reading b r
  reading_same (Ok d) names =
      let own = names d refl in
      ap (λ (o : Option (List ℕ)). completed_plant d o (bytes_of a d.times_file)) (bytes_same (demands_file d) own.demands)
      ∙ ap (λ (o : Option (List ℕ)). completed_plant d (bytes_of b (demands_file d)) o) (bytes_same d.times_file own.times)
  reading_same (Err error) names = refl

  -- files that differ in checkpoints alone have one plant
  pub same_plant : (name : List ℕ) → IsPlain name → plant_of name a ≡ plant_of name b
  unfolding plant_of
  same_plant name plain =
      ap (λ (o : Option (List ℕ)). plant_of_reading a (reading (unwrap_or o []))) (agree name plain)
      ∙ reading_same (reading (bytes_at b name)) (reading_names (bytes_at b name))

-- A tree in which nothing is refused gives a sound draft.
use Rattle.std.proofs.Common.{◌≡◌, ℕ, ◌+◌, Bool, true, List, [], ◌∷◌, map, get_or, refl, sym, ap, ◌∙◌, codes, arith}
use Rattle.std.specs.List.{list_all}
use Rattle.std.proofs.lemmas.Bool.{and_from}
use Rattle.line_base.specs.declared.limits.TheConstants.{MAX_OBSERVE_DATE}
use Rattle.plant_model.specs.declared.place.FileTable.TheVariants.{Top, InStage}
use Rattle.plant_model.proofs.NoRefusals.{append-nil_left, append-nil_right}
use Rattle.toml.specs.Data.{Data, get}
use Rattle.plant_keys.specs.declared.keys.Class.{Class}
use Rattle.plant_keys.specs.declared.keys.Class.TheVariants.{MissingKeys, BadNames, OutOfRanges}
use Rattle.plant_keys.specs.declared.keys.Kind.TheVariants.{StageReference}
use Rattle.plant_file.specs.Draft.{IsSoundDraft, is_sound_stage, is_sound_machine, is_sound_loop}
use Rattle.plant_keys.specs.Readers.{tables_at, text_at, stage_names}
use Rattle.plant_keys.specs.Keys.{Key, optional, top_keys, stage_keys, has_stage_cards}
use Rattle.plant_keys.specs.Faults.{all_from, all_of, errors}
use Rattle.plant_keys.specs.Walk.{key_faults, table_faults, stage_faults, walk_faults, tree_faults}
use Rattle.plant_file.specs.Reading.{column_at, draft_of, stage_of, machine_of, loop_of}
use Rattle.plant_file.proofs.SoundParts.{count_at-sound, column_at-sound, time_at-sound, numbers_at-up_to, policy_of-sound, machine_of-sound, loop_of-sound, list_all-made, tables_filled, filled-made, demands_sound, name_unreserved}
use Rattle.plant_file.proofs.ColumnUses.{times_file-columns}
use Rattle.plant_file.proofs.SoundNames.{names_twice-draft}
use Rattle.plant_file.proofs.NoFaults.{all_of-none, key-none, no_faults}
use Rattle.plant_file.proofs.TreeFlow.{errors-feeds_in, errors-finals_in}

no_key : Key
no_key = optional [] StageReference

stage_sound : (names : List (List ℕ)) (b : Bool) (i : ℕ) (s : Data) → stage_faults BadNames b i s ≡ [] → stage_faults MissingKeys b i s ≡ [] → stage_faults OutOfRanges b i s ≡ [] → is_sound_stage (stage_of names s) ≡ true
stage_sound names b i s bad missing out =
    let named = key-none BadNames (InStage i) s (get_or (stage_keys b) 4 no_key) (all_of-none (λ _ k. key_faults BadNames (InStage i) s k) (stage_keys b) 4 no_key (omega arith) (append-nil_left _ _ bad)) in
    let there = key-none MissingKeys (InStage i) s (get_or (stage_keys b) 3 no_key) (all_of-none (λ _ k. key_faults MissingKeys (InStage i) s k) (stage_keys b) 3 no_key (omega arith) (append-nil_left _ _ missing)) in
    let some = key-none OutOfRanges (InStage i) s (get_or (stage_keys b) 3 no_key) (all_of-none (λ _ k. key_faults OutOfRanges (InStage i) s k) (stage_keys b) 3 no_key (omega arith) (append-nil_left _ _ out)) in
    and_from _ _ (name_unreserved (get (codes "name") s) _ named)
    (and_from _ _ (time_at-sound (codes "card_time") s)
    (and_from _ _ (count_at-sound 0 (codes "cards") s refl)
    (and_from _ _ (filled-made machine_of (tables_at (codes "machine") s) (tables_filled (get (codes "machine") s) _ _ there some))
    (and_from _ _ (count_at-sound 0 (codes "stock") s refl)
    (and_from _ _ (time_at-sound (codes "travel") s)
    (list_all-made is_sound_machine machine_of machine_of-sound (tables_at (codes "machine") s)))))))

stages_sound : (names : List (List ℕ)) (b : Bool) (k : ℕ) (ss : List Data) → all_from (stage_faults BadNames b) k ss ≡ [] → all_from (stage_faults MissingKeys b) k ss ≡ [] → all_from (stage_faults OutOfRanges b) k ss ≡ [] → list_all is_sound_stage (map (stage_of names) ss) ≡ true
stages_sound names b k [] bad missing out = refl
stages_sound names b k (s ∷ ss) bad missing out =
    and_from (is_sound_stage (stage_of names s)) (list_all is_sound_stage (map (stage_of names) ss))
    (stage_sound names b k s (append-nil_left (stage_faults BadNames b k s) _ bad)
    (append-nil_left (stage_faults MissingKeys b k s) _ missing) (append-nil_left (stage_faults OutOfRanges b k s) _ out))
    (stages_sound names b (k + 1) ss (append-nil_right (stage_faults BadNames b k s) _ bad)
    (append-nil_right (stage_faults MissingKeys b k s) _ missing) (append-nil_right (stage_faults OutOfRanges b k s) _ out))

-- the parts of a walk that refuses nothing
top_of_walk : (class : Class) (top : Data) → walk_faults class top ≡ [] → table_faults class Top top (top_keys top) ≡ []
unfolding walk_faults
top_of_walk class top h = append-nil_left (table_faults class Top top (top_keys top)) _ h

stages_of_walk : (class : Class) (top : Data) → walk_faults class top ≡ [] → all_of (stage_faults class (has_stage_cards top)) (tables_at (codes "stage") top) ≡ []
unfolding walk_faults
stages_of_walk class top h =
    append-nil_left (all_of (stage_faults class (has_stage_cards top)) (tables_at (codes "stage") top)) _
    (append-nil_right (table_faults class Top top (top_keys top)) _ h)

-- a tree with which nothing is wrong gives a sound draft
pub sound_draft : (top : Data) → tree_faults top ≡ [] → IsSoundDraft (draft_of top)
sound_draft top h =
    let none = no_faults top h in
    let stages = tables_at (codes "stage") top in
    let demands = key-none OutOfRanges Top top (get_or (top_keys top) 2 no_key) (all_of-none (λ _ k. key_faults OutOfRanges Top top k) (top_keys top) 2 no_key (omega arith) (top_of_walk OutOfRanges top none.out)) in
    let there = key-none MissingKeys Top top (get_or (top_keys top) 8 no_key) (all_of-none (λ _ k. key_faults MissingKeys Top top k) (top_keys top) 8 no_key (omega arith) (top_of_walk MissingKeys top none.missing)) in
    let some = key-none OutOfRanges Top top (get_or (top_keys top) 8 no_key) (all_of-none (λ _ k. key_faults OutOfRanges Top top k) (top_keys top) 8 no_key (omega arith) (top_of_walk OutOfRanges top none.out)) in
    record {
      policy = policy_of-sound top;
      card_time = time_at-sound (codes "card_time") top;
      demands = demands_sound (get (codes "demands") top) _ (text_at (codes "demands_file") top) (column_at (codes "demands_column") top) (column_at-sound (codes "demands_column") top) demands;
      observe = numbers_at-up_to MAX_OBSERVE_DATE (codes "observe") top;
      filled = filled-made (stage_of (stage_names top)) (tables_at (codes "stage") top) (tables_filled (get (codes "stage") top) _ _ there some);
      stages = stages_sound (stage_names top) (has_stage_cards top) 0 (tables_at (codes "stage") top) (stages_of_walk BadNames top none.bad) (stages_of_walk MissingKeys top none.missing) (stages_of_walk OutOfRanges top none.out);
      loops = list_all-made is_sound_loop (loop_of (stage_names top)) (loop_of-sound (stage_names top)) (tables_at (codes "loop") top);
      names = names_twice-draft top ∙ none.twice;
      feeds = sym (errors-feeds_in stages) ∙ ap errors none.feeds;
      finals = sym (errors-finals_in stages) ∙ ap errors none.finals;
      times_file = times_file-columns top;
    }

-- What stages feed, in a tree and in its draft: each fault of the tree is a refusal of the draft.
use Rattle.std.proofs.Common.{◌≡◌, ℕ, ◌+◌, Bool, not, ◌&&◌, nat_lt, List, [], ◌∷◌, ◌++◌, map, length, Option, None, Some, option_map, is_none, is_some, refl, ap, ◌∙◌}
use Rattle.std.specs.Prelude.{bytes_eq, codes}
use Rattle.std.specs.Option.{option_map_or}
use Rattle.std.specs.List.{position_or_len}
use Rattle.std.proofs.lemmas.List.{length-map, map-append}
use Rattle.plant_model.specs.declared.error.PlantError.{PlantError}
use Rattle.plant_model.specs.declared.error.PlantError.TheVariants.{FeedsNotLater, TwoFinals}
use Rattle.plant_model.specs.declared.place.FileTable.TheVariants.{InStage}
use Rattle.plant_model.specs.Place.{place_of, key_of}
use Rattle.plant_model.specs.Refusals.{refuse_if, each_from, each, feeds_not_later, feeds_not_later_in, second_final, second_finals_in}
use Rattle.toml.specs.Data.{Data, get}
use Rattle.plant_keys.specs.Readers.{name_in, text_of}
use Rattle.plant_keys.specs.declared.fault.Fault.{Fault}
use Rattle.plant_keys.specs.declared.fault.Wants.{Wants}
use Rattle.plant_keys.specs.declared.fault.Wants.TheVariants.{Nothing}
use Rattle.plant_keys.specs.Faults.{errors, wanting, all_from, all_of}
use Rattle.plant_keys.specs.Walk.{fed_faults, feeds_faults, final_faults}
use Rattle.plant_file.specs.Reading.{stage_of}
use Rattle.plant_file.proofs.Later.{later_by_position}
use Rattle.plant_file.proofs.SoundNames.{each_map}

errors-wanting : (what : Wants) (refusals : List PlantError) → errors (wanting what refusals) ≡ refusals
errors-wanting what [] = refl
errors-wanting what (e ∷ es) = ap (λ rest. e ∷ rest) (errors-wanting what es)

errors-append : (xs ys : List Fault) → errors (xs ++ ys) ≡ errors xs ++ errors ys
errors-append xs ys = map-append (λ f. f.error) xs ys

-- one list after the other
errors-both : (xs ys : List Fault) (es fs : List PlantError) → errors xs ≡ es → errors ys ≡ fs → errors (xs ++ ys) ≡ es ++ fs
errors-both xs ys es fs h g = errors-append xs ys ∙ ap (λ l. l ++ errors ys) h ∙ ap (λ l. es ++ l) g

errors-all_from : {X : Type 0} (f : ℕ → X → List Fault) (g : ℕ → X → List PlantError) → ((i : ℕ) (x : X) → errors (f i x) ≡ g i x) → (k : ℕ) (xs : List X) → errors (all_from f k xs) ≡ each_from g k xs
errors-all_from f g h k [] = refl
errors-all_from f g h k (x ∷ xs) =
    errors-both (f k x) (all_from f (k + 1) xs) (g k x) (each_from g (k + 1) xs) (h k x) (errors-all_from f g h (k + 1) xs)

errors-all : {X : Type 0} (f : ℕ → X → List Fault) (g : ℕ → X → List PlantError) → ((i : ℕ) (x : X) → errors (f i x) ≡ g i x) → (xs : List X) → errors (all_of f xs) ≡ each g xs
errors-all f g h xs = errors-all_from f g h 0 xs

errors-feeds : (names : List (List ℕ)) (i : ℕ) (s : Data) → errors (feeds_faults names i s) ≡ feeds_not_later (length names) i (stage_of names s)
errors-feeds names i s =
    by_fed (get (codes "feeds") s)
  where
    refused : Bool → List PlantError
    refused later = refuse_if (not later) (FeedsNotLater (key_of (InStage i) (codes "feeds")))

    by_fed : (o : Option Data) → errors (option_map_or (λ v. fed_faults names i (text_of v)) o []) ≡ option_map_or (λ j. refused (nat_lt i j && nat_lt j (length names))) (option_map (λ v. position_or_len (bytes_eq (text_of v)) names) o) []
    by_fed None = refl
    by_fed (Some v) = errors-wanting _ _ ∙ ap refused (later_by_position (bytes_eq (text_of v)) names i)

errors-final : (count : ℕ) (names : List (List ℕ)) (i : ℕ) (s : Data) → errors (final_faults count i s) ≡ second_final count i (stage_of names s)
errors-final count names i s =
    errors-wanting Nothing _ ∙ by_fed (get (codes "feeds") s)
  where
    refused : Bool → List PlantError
    refused none = refuse_if (none && nat_lt (i + 1) count) (TwoFinals (place_of (InStage i)))

    by_fed : (o : Option Data) → refused (not (is_some o)) ≡ refused (is_none (option_map (λ v. position_or_len (bytes_eq (text_of v)) names) o))
    by_fed None = refl
    by_fed (Some v) = refl

-- the flow of stages
pub errors-feeds_in : (rows : List Data) → errors (all_of (feeds_faults (map name_in rows)) rows) ≡ feeds_not_later_in (map (stage_of (map name_in rows)) rows)
errors-feeds_in rows =
    let names = map name_in rows in
    rw (length-map rows (stage_of names), each_map (feeds_not_later (length rows)) (stage_of names) rows)
    (errors-all (feeds_faults names) (λ i s. feeds_not_later (length rows) i (stage_of names s))
    (λ i s. errors-feeds names i s ∙ ap (λ count. feeds_not_later count i (stage_of names s)) (length-map rows name_in)) rows)

pub errors-finals_in : (rows : List Data) → errors (all_of (final_faults (length rows)) rows) ≡ second_finals_in (map (stage_of (map name_in rows)) rows)
errors-finals_in rows =
    let names = map name_in rows in
    rw (length-map rows (stage_of names), each_map (second_final (length rows)) (stage_of names) rows)
    (errors-all (final_faults (length rows)) (λ i s. second_final (length rows) i (stage_of names s)) (errors-final (length rows) names) rows)

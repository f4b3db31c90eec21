-- Lists of faults: of keys and values of the code beside those that they stand for, and one list after the other.
use Rattle.std.proofs.Common.{◌≡◌, ℕ, ◌+◌, List, [], ◌∷◌, ◌++◌, map, take, length, refl, ap, ◌∙◌}
use Rattle.std.specs.Prelude.{codes}
use Rattle.std.proofs.lemmas.List.{length-map}
use Rattle.plant_model.specs.declared.error.PlantError.{PlantError}
use Rattle.plant_model.specs.declared.place.FileTable.{FileTable}
use Rattle.plant_model.specs.declared.place.FileTable.TheVariants.{InStage}
use Rattle.plant_model.specs.Refusals.{each_from, each}
use Rattle.toml.specs.Data.{Data}
use Rattle.toml.specs.View.{view}
use Rattle.toml.specs.declared.value.Value.{Value}
use Rattle.plant_keys.specs.declared.keys.Class.{Class}
use Rattle.plant_keys.specs.declared.keys.Key.{Key}
use Rattle.plant_keys.specs.Code.{keys_of, key_of as key_seen, views}
use Rattle.plant_keys.specs.Readers.{name_in, stage_names, tables_at}
use Rattle.plant_keys.specs.Rules.{name_twice, machine_name_twice, stage_name_twice, names_twice}
use Rattle.plant_keys.specs.declared.fault.Wants.{Wants}
use Rattle.plant_keys.specs.declared.fault.Wants.TheVariants.{Nothing}
use Rattle.plant_keys.specs.declared.fault.Fault.{Fault}
use Rattle.plant_keys.specs.Faults.{wanting, plain, all_from, all_of}
use Rattle.plant_keys.specs.Walk.{key_faults, keys_faults, feeds_faults, final_faults}

-- what is found of each of a list, of which each stands for another
all_from_map : {X Y A : Type 0} (f : ℕ → Y → List A) (g : X → Y) (k : ℕ) (xs : List X) → all_from f k (map g xs) ≡ all_from (λ i x. f i (g x)) k xs
all_from_map f g k [] = refl
all_from_map f g k (x ∷ xs) = ap (λ rest. f k (g x) ++ rest) (all_from_map f g (k + 1) xs)

pub all_of_map : {X Y A : Type 0} (f : ℕ → Y → List A) (g : X → Y) (xs : List X) → all_of f (map g xs) ≡ all_of (λ i x. f i (g x)) xs
all_of_map f g xs = all_from_map f g 0 xs

pub keys_faults_map : (class : Class) (table : FileTable) (d : Data) (keys : List Key) → keys_faults class table d (keys_of keys) ≡ all_of (λ _ k. key_faults class table d (key_seen k)) keys
keys_faults_map class table d keys = all_of_map (λ _ k. key_faults class table d k) key_seen keys

pub all_of_views : {A : Type 0} (f : ℕ → Data → List A) (vs : List Value) → all_of f (views vs) ≡ all_of (λ i v. f i (view v)) vs
all_of_views f vs = all_of_map f view vs

pub wanting-append : (what : Wants) (xs ys : List PlantError) → wanting what (xs ++ ys) ≡ wanting what xs ++ wanting what ys
wanting-append what [] ys = refl
wanting-append what (x ∷ xs) ys = ap (λ rest. record { error = x; wants = what } ∷ rest) (wanting-append what xs ys)

pub plain-append : (xs ys : List PlantError) → plain (xs ++ ys) ≡ plain xs ++ plain ys
plain-append xs ys = wanting-append Nothing xs ys

-- what is wanted at each refusal of a list of lists of them
wanting-each_from : {X : Type 0} (what : Wants) (f : ℕ → X → List PlantError) (k : ℕ) (xs : List X) → wanting what (each_from f k xs) ≡ all_from (λ i x. wanting what (f i x)) k xs
wanting-each_from what f k [] = refl
wanting-each_from what f k (x ∷ xs) =
    wanting-append what (f k x) (each_from f (k + 1) xs) ∙ ap (λ rest. wanting what (f k x) ++ rest) (wanting-each_from what f (k + 1) xs)

pub wanting-each : {X : Type 0} (what : Wants) (f : ℕ → X → List PlantError) (xs : List X) → wanting what (each f xs) ≡ all_of (λ i x. wanting what (f i x)) xs
wanting-each what f xs = wanting-each_from what f 0 xs

-- the names of a stage and of its machines that stand twice
pub stage_twice_faults : (seen : List (List ℕ)) (i : ℕ) (s : Data) (rows : List Value) → views rows ≡ tables_at (codes "machine") s → plain (stage_name_twice seen i s) ≡ plain (name_twice (InStage i) seen (name_in s)) ++ all_of (λ j m. plain (machine_name_twice i (map name_in (views rows)) j (view m))) rows
stage_twice_faults seen i s rows is =
    rw (← is)
    (wanting-append Nothing (name_twice (InStage i) seen (name_in s)) (each (machine_name_twice i (map name_in (views rows))) (views rows))
    ∙ ap (λ rest. plain (name_twice (InStage i) seen (name_in s)) ++ rest)
    (wanting-each Nothing (machine_name_twice i (map name_in (views rows))) (views rows) ∙ all_of_views (λ j m. plain (machine_name_twice i (map name_in (views rows)) j m)) rows))

-- the names that stand twice, of a file with these stages
pub twice_faults : (top : Data) (rows : List Value) → views rows ≡ tables_at (codes "stage") top → plain (names_twice top) ≡ all_of (λ i s. plain (stage_name_twice (take i (map name_in (views rows))) i (view s))) rows
twice_faults top rows are =
    rw (← are)
    (wanting-each Nothing (λ i s. stage_name_twice (take i (map name_in (views rows))) i s) (views rows)
    ∙ all_of_views (λ i s. plain (stage_name_twice (take i (map name_in (views rows))) i s)) rows)

-- the stages that feed no later one
pub feeds_rows : (top : Data) (rows : List Value) → views rows ≡ tables_at (codes "stage") top → all_of (feeds_faults (stage_names top)) (tables_at (codes "stage") top) ≡ all_of (λ i s. feeds_faults (map name_in (views rows)) i (view s)) rows
feeds_rows top rows are = rw (← are) (all_of_views (feeds_faults (map name_in (views rows))) rows)

-- the stages but the last that feed none
pub finals_rows : (top : Data) (rows : List Value) → views rows ≡ tables_at (codes "stage") top → all_of (final_faults (length (tables_at (codes "stage") top))) (tables_at (codes "stage") top) ≡ all_of (final_faults (length rows)) (views rows)
finals_rows top rows are = rw (← are, length-map rows view) refl

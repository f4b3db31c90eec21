-- What it means that nothing is wrong with a tree.
use Rattle.std.proofs.Common.{◌≡◌, ℕ, zero, suc, ◌+◌, ◌<◌, List, [], ◌∷◌, ◌++◌, length, get_or, Option, None, Some, refl, arith, codes}
use Rattle.std.specs.Option.{option_map_or}
use Rattle.plant_model.specs.declared.error.PlantError.{PlantError}
use Rattle.plant_model.specs.declared.place.FileTable.{FileTable}
use Rattle.plant_model.specs.Place.{key_of}
use Rattle.plant_model.proofs.NoRefusals.{append-nil_left, append-nil_right}
use Rattle.toml.specs.Data.{Data, get}
use Rattle.plant_keys.specs.declared.fault.Fault.{Fault}
use Rattle.plant_keys.specs.declared.fault.Wants.{Wants}
use Rattle.plant_keys.specs.declared.fault.Wants.TheVariants.{Nothing}
use Rattle.plant_keys.specs.declared.keys.Class.{Class}
use Rattle.plant_keys.specs.declared.keys.Class.TheVariants.{UnknownKeys, MissingKeys, WrongTypes, BadNames, OutOfRanges}
use Rattle.plant_keys.specs.Faults.{errors, wanting, plain, all_from, all_of, wants_of}
use Rattle.plant_keys.specs.Keys.{Key}
use Rattle.plant_keys.specs.Readers.{tables_at, stage_names}
use Rattle.plant_keys.specs.Rules.{value_refusals, absence_refusals, names_twice}
use Rattle.plant_keys.specs.Walk.{value_faults, key_faults, walk_faults, feeds_faults, final_faults, tree_faults}

-- faults without a refusal are none
pub no_errors : (faults : List Fault) → errors faults ≡ [] → faults ≡ []
no_errors [] h = refl
no_errors (f ∷ fs) h = cc

no_wanting : (what : Wants) (refusals : List PlantError) → wanting what refusals ≡ [] → refusals ≡ []
no_wanting what [] h = refl
no_wanting what (r ∷ rs) h = cc

-- a key with which nothing is wrong is refused nothing
pub key-none : (class : Class) (table : FileTable) (d : Data) (key : Key) → key_faults class table d key ≡ [] → option_map_or (value_refusals class key.kind (key_of table key.name)) (get key.name d) (absence_refusals class key.required (key_of table key.name)) ≡ []
key-none class table d key h =
    by_value (get key.name d) h
  where
    place : List ℕ
    place = key_of table key.name

    by_value : (o : Option Data) → option_map_or (value_faults class key.kind place) o (plain (absence_refusals class key.required place)) ≡ [] → option_map_or (value_refusals class key.kind place) o (absence_refusals class key.required place) ≡ []
    by_value None h = no_wanting Nothing _ h
    by_value (Some v) h = no_wanting (wants_of class key.kind v) _ h

all_from-none : {X A : Type 0} (f : ℕ → X → List A) (k : ℕ) (xs : List X) (i j : ℕ) (d : X) → i < length xs → k + i ≡ j → all_from f k xs ≡ [] → f j (get_or xs i d) ≡ []
all_from-none f k [] i j d below is h = absurd (omega arith)
all_from-none f k (x ∷ xs) zero j d below is h = let e : k ≡ j = omega arith in rw (← e) (append-nil_left (f k x) _ h)
all_from-none f k (x ∷ xs) (suc i) j d below is h =
    all_from-none f (k + 1) xs i j d (omega arith) (omega arith) (append-nil_right (f k x) _ h)

-- where nothing is wrong with all, nothing is with one
pub all_of-none : {X A : Type 0} (f : ℕ → X → List A) (xs : List X) (i : ℕ) (d : X) → i < length xs → all_of f xs ≡ [] → f i (get_or xs i d) ≡ []
all_of-none f xs i d below h = all_from-none f 0 xs i i d below (omega arith) h

-- nothing is wrong with a tree, class by class
pub record NoFaults (top : Data) : Type 0 where
  pub missing : walk_faults MissingKeys top ≡ []
  pub bad : walk_faults BadNames top ≡ []
  pub twice : names_twice top ≡ []
  pub out : walk_faults OutOfRanges top ≡ []
  pub feeds : all_of (feeds_faults (stage_names top)) (tables_at (codes "stage") top) ≡ []
  pub finals : all_of (final_faults (length (tables_at (codes "stage") top))) (tables_at (codes "stage") top) ≡ []

pub no_faults : (top : Data) → tree_faults top ≡ [] → NoFaults top
unfolding tree_faults
no_faults top h =
    let missing = append-nil_right (walk_faults UnknownKeys top) _ (append-nil_left _ _ h) in
    let types = append-nil_right (walk_faults MissingKeys top) _ missing in
    let last = append-nil_right _ _ h in
    let out = append-nil_right (plain (names_twice top)) _ last in
    let flow = append-nil_right (walk_faults OutOfRanges top) _ out in
    record {
      missing = append-nil_left (walk_faults MissingKeys top) _ missing;
      bad = append-nil_right (walk_faults WrongTypes top) _ types;
      twice = no_wanting Nothing (names_twice top) (append-nil_left (plain (names_twice top)) _ last);
      out = append-nil_left (walk_faults OutOfRanges top) _ out;
      feeds = append-nil_left _ _ flow;
      finals = append-nil_right (all_of (feeds_faults (stage_names top)) (tables_at (codes "stage") top)) _ flow;
    }

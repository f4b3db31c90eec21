-- The names of a tree differ where those of its draft do.
use Rattle.std.proofs.Common.{◌≡◌, ℕ, zero, suc, ◌+◌, true, false, ◌==◌, List, [], ◌∷◌, ◌++◌, map, take, refl, ap, sym, ◌∙◌, codes}
use Rattle.std.specs.Prelude.{bytes_eq}
use Rattle.std.specs.List.{list_any}
use Rattle.std.proofs.lemmas.Bool.{eqb-true, eq-eqb, ne_eqb, eqb-false}
use Rattle.plant_model.specs.declared.error.PlantError.{PlantError}
use Rattle.plant_model.specs.declared.error.PlantError.TheVariants.{NameTwice}
use Rattle.plant_model.specs.declared.place.FileTable.TheVariants.{InMachine}
use Rattle.plant_model.specs.Place.{key_of}
use Rattle.plant_model.specs.Refusals.{each_from, each, refuse_if}
use Rattle.toml.specs.Data.{Data}
use Rattle.plant_model.specs.Refusals as model
use Rattle.plant_keys.specs.Rules as tree
use Rattle.plant_keys.specs.Readers.{name_in, tables_at, stage_names}
use Rattle.plant_file.specs.Reading.{machine_of, stage_of, draft_of}

each_from_map : {X Y : Type 0} (f : ℕ → Y → List PlantError) (g : X → Y) (k : ℕ) (xs : List X) → each_from f k (map g xs) ≡ each_from (λ i x. f i (g x)) k xs
each_from_map f g k [] = refl
each_from_map f g k (x ∷ xs) = ap (λ rest. f k (g x) ++ rest) (each_from_map f g (k + 1) xs)

-- what is refused of each of a list, of which each is made of another
pub each_map : {X Y : Type 0} (f : ℕ → Y → List PlantError) (g : X → Y) (xs : List X) → each f (map g xs) ≡ each (λ i x. f i (g x)) xs
each_map f g xs = each_from_map f g 0 xs

nat_eq-sym : (x y : ℕ) → (x == y) ≡ (y == x)
nat_eq-sym x y =
    elim (x == y) as (λ b. (x == y) ≡ b → b ≡ (y == x)) [
      | true ↦ λ is. sym (eq-eqb y x (sym (eqb-true x y is)))
      | false ↦ λ is. sym (ne_eqb y x (λ e. eqb-false x y is (sym e)))
    ] refl

bytes_eq-sym : (xs ys : List ℕ) → bytes_eq xs ys ≡ bytes_eq ys xs
bytes_eq-sym [] [] = refl
bytes_eq-sym [] (y ∷ ys) = refl
bytes_eq-sym (x ∷ xs) [] = refl
bytes_eq-sym (x ∷ xs) (y ∷ ys) = rw (nat_eq-sym x y, bytes_eq-sym xs ys) refl

module _ {Y : Type 0} (name : Y → List ℕ) (made : Data → Y) (named : (x : Data) → name (made x) ≡ name_in x) (n : List ℕ) where
  any_take : (j : ℕ) (xs : List Data) → list_any (λ other. bytes_eq (name other) n) (take j (map made xs)) ≡ list_any (bytes_eq n) (take j (map name_in xs))
  any_take zero xs = refl
  any_take (suc j) [] = refl
  any_take (suc j) (x ∷ xs) = rw (named x, bytes_eq-sym (name_in x) n, any_take j xs) refl

each_from-same : {X : Type 0} (f g : ℕ → X → List PlantError) → ((i : ℕ) (x : X) → f i x ≡ g i x) → (k : ℕ) (xs : List X) → each_from f k xs ≡ each_from g k xs
each_from-same f g h k [] = refl
each_from-same f g h k (x ∷ xs) = rw (h k x, each_from-same f g h (k + 1) xs) refl

machine_names : (i : ℕ) (ms : List Data) → each (model.machine_name_twice i (map machine_of ms)) (map machine_of ms) ≡ tree.machine_names_twice i ms
machine_names i ms =
    each_map (model.machine_name_twice i (map machine_of ms)) machine_of ms
    ∙ each_from-same _ _ (λ j m. ap (λ b. refuse_if b (NameTwice (key_of (InMachine i j) (codes "name")))) (any_take (λ o. o.name) machine_of (λ x. refl) (name_in m) j ms)) 0 ms

stage_name : (names : List (List ℕ)) (stages : List Data) (i : ℕ) (s : Data) → model.stage_name_twice (map (stage_of names) stages) i (stage_of names s) ≡ tree.stage_name_twice (take i (map name_in stages)) i s
stage_name names stages i s =
    rw (any_take (λ o. o.name) (stage_of names) (λ x. refl) (name_in s) i stages, machine_names i (tables_at (codes "machine") s))
    refl

-- the names of a draft are refused where those of its tree are
pub names_twice-draft : (top : Data) → model.names_twice_in (draft_of top).stages ≡ tree.names_twice top
names_twice-draft top =
    let stages = tables_at (codes "stage") top in
    each_map (model.stage_name_twice (draft_of top).stages) (stage_of (stage_names top)) stages
    ∙ each_from-same _ _ (stage_name (stage_names top) stages) 0 stages

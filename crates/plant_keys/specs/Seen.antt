-- For the proofs of this crate: names that came so far, whatever their order.
use Rattle.std.specs.Prelude.{◌≡◌, ℕ, List, [], bytes_eq, map}
use Rattle.std.specs.List.{list_any}
use Rattle.toml.specs.Data.{Data}
use Rattle.plant_keys.specs.Readers.{name_in}
use Rattle.plant_keys.specs.Rules.{stage_names_twice}

-- the same names stand in both lists
pub record HaveSame (xs ys : List (List ℕ)) : Type 0 where
  pub same : (name : List ℕ) → list_any (bytes_eq name) xs ≡ list_any (bytes_eq name) ys

-- these are the names of stages: the same, and in their order where none stands twice
pub record AreNamesSeen (names : List (List ℕ)) (stages : List Data) : Type 0 where
  pub same : HaveSame names (map name_in stages)
  pub exact : stage_names_twice stages ≡ [] → names ≡ map name_in stages

-- Keys of the code beside the keys that they stand for.
use Rattle.std.proofs.Common.{◌≡◌, ℕ, not, ◌&&◌, ◌||◌, List, [], ◌∷◌, refl, ap}
use Rattle.std.specs.Prelude.{bytes_eq}
use Rattle.std.specs.List.{list_any}
use Rattle.plant_keys.specs.Code.{keys_of}
use Rattle.plant_keys.specs.declared.keys.Key.{Key}
use Rattle.plant_keys.specs.Keys.{is_allowed}

pub is_allowed_map : (keys : List Key) (name : List ℕ) → is_allowed (keys_of keys) name ≡ list_any (λ k. bytes_eq k.name.now name && not k.excluded) keys
is_allowed_map [] name = refl
is_allowed_map (k ∷ ks) name =
    ap (λ rest. (bytes_eq k.name.now name && not k.excluded) || rest) (is_allowed_map ks name)

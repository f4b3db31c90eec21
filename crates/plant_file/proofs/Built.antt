-- Lists that are built element by element.
use Rattle.std.proofs.Common.{◌≡◌, ℕ, ◌+◌, ◌<◌, ◌≤◌, List, [], ◌∷◌, ◌++◌, map, take, length, get_or, refl, ap, ◌∙◌}
use Rattle.std.proofs.lemmas.List.{map_more, map_push, take_all}

module _ {X Y : Type 0} (f : X → Y) where
  -- one more element, which is read with a default
  pub built_more_read : (xs : List X) (i : ℕ) (d : X) (y : Y) (made : List Y) → made ≡ map f (take i xs) → i < length xs → y ≡ f (get_or xs i d) → made ++ y ∷ [] ≡ map f (take (i + 1) xs)
  built_more_read xs i d y made so_far below is = rw (map_more f xs i d below, so_far, is) refl

  pub built_more : (xs : List X) (i : ℕ) (x : X) (y : Y) (made : List Y) → made ≡ map f (take i xs) → i < length xs → x ≡ get_or xs i x → y ≡ f x → made ++ y ∷ [] ≡ map f (take (i + 1) xs)
  built_more xs i x y made so_far below here is = built_more_read xs i x y made so_far below (is ∙ ap f here)

  -- the same, of elements that are handed on by value
  pub built_push : (xs : List X) (x : X) (y : Y) (made : List Y) → made ≡ map f xs → y ≡ f x → made ++ y ∷ [] ≡ map f (xs ++ x ∷ [])
  built_push xs x y made so_far is = rw (map_push f xs x, so_far, is) refl

  -- all elements
  pub built_all : (xs : List X) (i : ℕ) (made : List Y) → made ≡ map f (take i xs) → length xs ≤ i → made ≡ map f xs
  built_all xs i made so_far past = so_far ∙ ap (map f) (take_all i xs past)

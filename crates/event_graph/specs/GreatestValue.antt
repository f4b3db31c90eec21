-- The greatest value of a function on a list.
use Rattle.std.specs.Prelude.{ℕ, max, List, [], ◌∷◌}

-- the greatest value of f on a list, 0 on the empty one
unfoldable pub greatest : (ℕ → ℕ) → List ℕ → ℕ
greatest f [] = 0
greatest f (x ∷ xs) = max (f x) (greatest f xs)

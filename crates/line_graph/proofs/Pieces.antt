-- Lists that are made piece by piece.
use Rattle.std.proofs.Common.{◌≡◌, ℕ, ◌+◌, ◌<◌, List, [], ◌∷◌, ◌++◌, length, get_or, take, sym, ap, ◌∙◌}
use Rattle.std.specs.List.{flat_map}
use Rattle.std.proofs.lemmas.List.{flat_map_more, take_more}

-- one piece more
pub pieces_more : {X A : Type 0} (f : X → List A) (front : List A) (xs : List X) (x : X) (i : ℕ) (all new : List A) → all ≡ front ++ flat_map f (take i xs) → i < length xs → x ≡ get_or xs i x → new ≡ all ++ f x → new ≡ front ++ flat_map f (take (i + 1) xs)
pieces_more f front xs x i all new is below read more =
    more
    ∙ ap (λ l. l ++ f x) is
    ∙ flat_map_more f front (take i xs) x
    ∙ ap (λ l. front ++ flat_map f l) (ap (λ y. take i xs ++ y ∷ []) read ∙ sym (take_more xs i x below))

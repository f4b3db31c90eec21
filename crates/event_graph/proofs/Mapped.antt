-- A list of which contracts see a list for each element, when one element is changed.
use Rattle.std.proofs.Common.{◌≡◌, ℕ, ◌<◌, List, [], ◌∷◌, ◌++◌, map, length, get_or, set, sym, ap, ◌∙◌, arith}
use Rattle.std.proofs.lemmas.List.{length-map, map-set, get_or-map}

-- a number is added at the end of the list of element k
pub map-set_push : {X : Type 0} (f : X → List ℕ) (xs : List X) (k : ℕ) (old new : X) (a : ℕ) (seen : List (List ℕ)) → map f xs ≡ seen → k < length seen → old ≡ get_or xs k old → f new ≡ f old ++ a ∷ [] → map f (set xs k new) ≡ set seen k (get_or seen k [] ++ a ∷ [])
map-set_push f xs k old new a seen e low at added =
    let here : get_or seen k [] ≡ f old =
    ap (λ l. get_or l k []) (sym e) ∙ get_or-map f xs k old [] (omega (arith, ap length e, length-map xs f)) ∙ ap f (sym at) in
    map-set f xs k new
    ∙ ap (λ l. set l k (f new)) e
    ∙ ap (λ v. set seen k v) (added ∙ ap (λ l. l ++ a ∷ []) (sym here))

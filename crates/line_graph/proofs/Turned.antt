-- A list that is turned round to its least number.
use Rattle.std.proofs.Common.{◌≡◌, ℕ, ◌<◌, ◌≤◌, List, [], ◌∷◌, ◌++◌, length, get_or, take, drop, refl, ap, sym, ◌∙◌, subst, arith, add-zero}
use Rattle.std.specs.Prelude.{All}
use Rattle.std.proofs.lemmas.List.{get_or_append_left, get_or-drop, length-drop}
use Rattle.std.proofs.lemmas.List.Elements.{All-nil, All-append, All-drop, All-take}
use Rattle.line_graph.specs.Turned.{IsTurned}

-- the number at which a list was turned stands first
turned_head : (xs : List ℕ) (k : ℕ) → k < length xs → get_or (drop k xs ++ take k xs) 0 0 ≡ get_or xs k 0
turned_head xs k low =
    get_or_append_left (drop k xs) (take k xs) 0 0 (omega (arith, length-drop k xs)) ∙ get_or-drop k xs 0 0 ∙ ap (λ i. get_or xs i 0) (add-zero k)

turned_least : (xs : List ℕ) (k : ℕ) → k < length xs → All (λ n. get_or xs k 0 ≤ n) xs → All (λ n. get_or (drop k xs ++ take k xs) 0 0 ≤ n) (drop k xs ++ take k xs)
turned_least xs k low least =
    subst (λ m. All (λ n. m ≤ n) (drop k xs ++ take k xs)) (sym (turned_head xs k low))
    (All-append (λ n. get_or xs k 0 ≤ n) (drop k xs) (take k xs) (All-drop (λ n. get_or xs k 0 ≤ n) k xs least) (All-take (λ n. get_or xs k 0 ≤ n) k xs least))

nothing_turned : (P : ℕ → Type 0) (k : ℕ) → All P (drop k [] ++ take k [])
nothing_turned P k = All-append P (drop k []) (take k []) (All-drop P k [] (All-nil P)) (All-take P k [] (All-nil P))

some_length : (x : ℕ) (xs : List ℕ) → 0 < length (x ∷ xs)
some_length x xs = omega arith

pub is_turned : (xs : List ℕ) (k : ℕ) → (0 < length xs → k < length xs) → All (λ n. get_or xs k 0 ≤ n) xs → IsTurned xs (drop k xs ++ take k xs)
is_turned [] k inside least = record { at = k; turned_is = refl; least_first = nothing_turned (λ t. get_or (drop k [] ++ take k []) 0 0 ≤ t) k }
is_turned (x ∷ xs) k inside least = record {
  at = k;
  turned_is = refl;
  least_first = turned_least (x ∷ xs) k (inside (some_length x xs)) least;
}

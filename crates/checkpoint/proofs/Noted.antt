-- Refusals that are noted as lines are read, the first alone.
use Rattle.std.proofs.Common.{◌≡◌, ℕ, ◌+◌, ◌<◌, eqb, List, [], ◌∷◌, ◌++◌, length, map, get_or, refl, sym, ap, ◌∙◌, append-nil, zero-add}
use Rattle.std.specs.Prelude.{Option, None, Some, not}
use Rattle.std.specs.List.{flat_map, range_with_len}
use Rattle.std.proofs.lemmas.Grind.{flat_map-append}
use Rattle.std.proofs.lemmas.List.{length_push, get_or_push, get_or_append_left}
use Rattle.std.proofs.lemmas.List.Folds.{flat_map-map}
use Rattle.std.proofs.lemmas.List.FromFn.{map-range_with_len_more}
use Rattle.line_core.specs.declared.error.StateError.{StateError}
use Rattle.line_core.specs.declared.error.StateError.TheVariants.{PlaceDate}
use Rattle.line_core.specs.Parts.{each_below, first, refuse_if}
use Rattle.line_core.proofs.MarkedLogs.{each_below-same}
use Rattle.checkpoint.specs.Reading.{or_first, unlike_token, unlike_tokens}

or_first-append : (xs ys : List StateError) → or_first (first xs) ys ≡ first (xs ++ ys)
or_first-append [] ys = refl
or_first-append (x ∷ xs) ys = refl

pub or_first-twice : (noted : Option StateError) (xs ys : List StateError) → or_first (or_first noted xs) ys ≡ or_first noted (xs ++ ys)
or_first-twice None xs ys = or_first-append xs ys
or_first-twice (Some refusal) xs ys = refl

pub each_below-more : (n : ℕ) (f : ℕ → List StateError) → each_below (n + 1) f ≡ each_below n f ++ f n
unfolding each_below
each_below-more n f =
    let same : ℕ → ℕ = λ k. k in
    sym (flat_map-map f same (range_with_len 0 (n + 1)))
    ∙ ap (flat_map f) (map-range_with_len_more same 0 n n (zero-add n))
    ∙ flat_map-append f (map same (range_with_len 0 n)) (n ∷ [])
    ∙ ap (λ l. l ++ (f n ++ [])) (flat_map-map f same (range_with_len 0 n))
    ∙ ap (λ l. flat_map f (range_with_len 0 n) ++ l) (append-nil (f n))

-- one more number, where the refusals of those before stay
pub noted_next : (n : ℕ) (f h : ℕ → List StateError) (noted : Option StateError) → noted ≡ first (each_below n f) → ((i : ℕ) → i < n → f i ≡ h i) → or_first noted (h n) ≡ first (each_below (n + 1) h)
noted_next n f h noted is same =
    ap (λ o. or_first o (h n)) is
    ∙ or_first-append (each_below n f) (h n)
    ∙ ap (λ l. first (l ++ h n)) (each_below-same n f h same)
    ∙ ap first (sym (each_below-more n h))

-- one more token
pub unlike-push : (a : ℕ) (dates left : List ℕ) (have need : ℕ) → need ≡ get_or left (length dates) 0 → unlike_tokens a (dates ++ have ∷ []) left ≡ unlike_tokens a dates left ++ refuse_if (not (eqb have need)) (PlaceDate a (length dates + 1) have need)
unfolding unlike_tokens
unlike-push a dates left have need is =
    let more = dates ++ have ∷ [] in
    let n = length dates in
    ap (λ m. each_below m (unlike_token a more left)) (length_push dates have)
    ∙ each_below-more n (unlike_token a more left)
    ∙ ap (λ l. l ++ unlike_token a more left n) (each_below-same n (unlike_token a more left) (unlike_token a dates left) (λ i low.
    ap (λ d. refuse_if (not (eqb d (get_or left i 0))) (PlaceDate a (i + 1) d (get_or left i 0))) (get_or_append_left dates (have ∷ []) 0 i low)))
    ∙ ap (λ d. each_below n (unlike_token a dates left) ++ refuse_if (not (eqb d (get_or left n 0))) (PlaceDate a (n + 1) d (get_or left n 0))) (get_or_push dates have 0 n refl)
    ∙ ap (λ d. each_below n (unlike_token a dates left) ++ refuse_if (not (eqb have d)) (PlaceDate a (n + 1) have d)) (sym is)

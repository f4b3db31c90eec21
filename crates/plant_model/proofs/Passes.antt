-- How the answers of tests made one after the other, and of a loop of tests, answer the refusals of all.
use Rattle.std.proofs.Common.{◌≡◌, ◌≢◌, ℕ, suc, ◌+◌, ◌<◌, List, [], ◌∷◌, ◌++◌, length, get_or, drop, Some, Result, sym, ap, ◌∙◌, add-one}
use Rattle.std.proofs.Math.Seq.{drop-cons}
use Rattle.std.proofs.lemmas.List.{get_or_default}
use Rattle.std.specs.Prelude.{⊤, IsErrAnd}
use Rattle.std.proofs.lemmas.Result.{err_from_is_err_and}
use Rattle.plant_model.specs.declared.error.PlantError.TheVariants.{NoMemory}
use Rattle.plant_model.specs.declared.error.PlantError.{PlantError}
use Rattle.plant_model.specs.Refusals.{each_from, each, first, AnswersFirst}

-- what comes first in a list comes first where more follows
pub first-append : (xs ys : List PlantError) (e : PlantError) → first xs ≡ Some e → first (xs ++ ys) ≡ Some e
first-append [] ys e h = cc
first-append (x ∷ xs) ys e h = h

-- the elements below number i are refused nothing, so what is refused of all is refused of the others
pub record Passed {X : Type 0} (f : ℕ → X → List PlantError) (xs : List X) (i : ℕ) : Type 0 where
  pub rest : each f xs ≡ each_from f i (drop i xs)

-- the elements from number i on: element i, and those after it
drop-here : {X : Type 0} (xs : List X) (i : ℕ) (x : X) → i < length xs → x ≡ get_or xs i x → drop i xs ≡ x ∷ drop (i + 1) xs
drop-here xs i x below is = rw (drop-cons xs i x below, add-one) (ap (λ y. y ∷ drop (suc i) xs) (sym is))

pub Passed-at : {X : Type 0} (f : ℕ → X → List PlantError) (xs : List X) (i : ℕ) (x : X) → Passed f xs i → i < length xs → x ≡ get_or xs i x → each f xs ≡ f i x ++ each_from f (i + 1) (drop (i + 1) xs)
Passed-at f xs i x h below is = h.rest ∙ ap (each_from f i) (drop-here xs i x below is)

-- what is refused first of the next element is refused first of all
pub Passed-first : {X : Type 0} (f : ℕ → X → List PlantError) (xs : List X) (i : ℕ) (x : X) (e : PlantError) → Passed f xs i → i < length xs → x ≡ get_or xs i x → first (f i x) ≡ Some e → first (each f xs) ≡ Some e
Passed-first f xs i x e h below is found = rw (Passed-at f xs i x h below is) (first-append _ _ e found)

-- the exit of a loop that stops at the first refusal, e
pub stops : {X : Type 0} (f : ℕ → X → List PlantError) (xs : List X) (i : ℕ) (x : X) {e : PlantError} (r : Result ⊤ PlantError) → IsErrAnd r (λ y. y ≡ e) → Passed f xs i → i < length xs → x ≡ get_or xs i x → (e ≢ NoMemory → first (f i x) ≡ Some e) → AnswersFirst r (each f xs)
stops f xs i x {e} r was h below is named =
    let p = err_from_is_err_and r was in rw (p.1, p.2) (λ ne. Passed-first f xs i x e h below is (named ne))

-- the same, of a list whose elements are read with a default
pub stops_read : {X : Type 0} (f : ℕ → X → List PlantError) (xs items : List X) (i : ℕ) (d : X) {e : PlantError} (r : Result ⊤ PlantError) → IsErrAnd r (λ y. y ≡ e) → Passed f xs i → items ≡ xs → i < length items → (e ≢ NoMemory → first (f i (get_or items i d)) ≡ Some e) → AnswersFirst r (each f xs)
stops_read f xs items i d r was h are below named =
    let below : i < length xs = rw are at below in
    let named = rw are at named in
    stops f xs i (get_or xs i d) r was h below (get_or_default xs i d _ below) named

-- the exit of a row of tests at the refusal e of one of them, where those before refuse nothing
pub stops_among : {e : PlantError} (r : Result ⊤ PlantError) (found rest all : List PlantError) → IsErrAnd r (λ y. y ≡ e) → all ≡ found ++ rest → (e ≢ NoMemory → first found ≡ Some e) → AnswersFirst r all
stops_among {e} r found rest all was is named =
    let p = err_from_is_err_and r was in rw (p.1, p.2, is) (λ ne. first-append found rest e (named ne))

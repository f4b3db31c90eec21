-- The steps of a loop over elements of which none is refused, and of tests in a row.
use Rattle.std.proofs.Common.{◌≡◌, refl, ℕ, ◌+◌, ◌<◌, ◌≤◌, List, [], ◌++◌, length, get_or, drop, Result, ap, ◌∙◌}
use Rattle.std.proofs.lemmas.List.{drop_all, get_or_default}
use Rattle.std.specs.Prelude.{⊤}
use Rattle.plant_model.specs.declared.error.PlantError.{PlantError}
use Rattle.plant_model.specs.Refusals.{each_from, each, AnswersFirst}
use Rattle.plant_model.proofs.Passes.{Passed, Passed-at}

-- nothing is asked yet
pub passed_none : {X : Type 0} (f : ℕ → X → List PlantError) (xs : List X) → Passed f xs 0
passed_none f xs = record { rest = refl }

-- the next element is refused nothing either
pub passed_more : {X : Type 0} (f : ℕ → X → List PlantError) (xs : List X) (i : ℕ) (x : X) → Passed f xs i → i < length xs → x ≡ get_or xs i x → f i x ≡ [] → Passed f xs (i + 1)
passed_more f xs i x h below is none =
    record { rest = Passed-at f xs i x h below is ∙ ap (λ here. here ++ each_from f (i + 1) (drop (i + 1) xs)) none }

-- the same, of a list whose elements are read with a default
pub passed_more_read : {X : Type 0} (f : ℕ → X → List PlantError) (xs : List X) (i : ℕ) (d : X) → Passed f xs i → i < length xs → f i (get_or xs i d) ≡ [] → Passed f xs (i + 1)
passed_more_read f xs i d h below none = passed_more f xs i (get_or xs i d) h below (get_or_default xs i d _ below) none

-- no element is refused
pub passed_all : {X : Type 0} (f : ℕ → X → List PlantError) (xs : List X) (i : ℕ) → Passed f xs i → length xs ≤ i → each f xs ≡ []
passed_all f xs i h past = h.rest ∙ ap (each_from f i) (drop_all i xs past)

-- where the first test of a row refuses nothing, the others answer for all
pub goes_on : (r : Result ⊤ PlantError) (found rest : List PlantError) → found ≡ [] → AnswersFirst r rest → AnswersFirst r (found ++ rest)
goes_on r found rest none answers = rw none answers

-- What a test gives of refusals, by whether it is met.
use Rattle.std.proofs.Common.{◌≡◌, true, false, Bool, List, [], ◌∷◌, ◌++◌, Some, Result, refl, sym, append-nil, OnOk}
use Rattle.std.specs.Prelude.{⊤}
use Rattle.plant_model.specs.declared.error.PlantError.{PlantError}
use Rattle.plant_model.specs.Refusals.{refuse_if, first}

-- a test that isn't met refuses nothing
pub none_refused : (test : Bool) (refusal : PlantError) → test ≡ false → refuse_if test refusal ≡ []
none_refused test refusal unmet = rw unmet refl

-- one that is met refuses what is answered
pub first_refused : (test : Bool) (refusal answer : PlantError) → test ≡ true → answer ≡ refusal → first (refuse_if test refusal) ≡ Some answer
first_refused test refusal answer met is = rw (met, is) refl

-- where nothing is refused, nothing is added
pub none_added : (old found : List PlantError) → found ≡ [] → old ≡ old ++ found
none_added old found none = rw none (sym (append-nil old))

-- what a test that is met refuses is added
pub refusal_added : {E : Type 0} (r : Result ⊤ E) (new old : List PlantError) (test : Bool) (refusal : PlantError) → test ≡ true → OnOk r (new ≡ old ++ refusal ∷ []) → OnOk r (new ≡ old ++ refuse_if test refusal)
refusal_added r new old test refusal met added = rw met added

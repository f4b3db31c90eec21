-- From the first of some refusals to the answer.
use Rattle.std.proofs.Common.{◌≡◌, ◌≢◌, List, [], ◌∷◌, Some, Ok, Err, Result, OnOk}
use Rattle.std.specs.Prelude.{IsErrAnd, IfErr, IfOk}
use Rattle.std.proofs.lemmas.Result.{err_from_is_err_and}
use Rattle.plant_model.specs.declared.error.PlantError.{PlantError}
use Rattle.plant_model.specs.declared.error.PlantError.TheVariants.{NoMemory}
use Rattle.plant_model.specs.declared.plant.Plant.{Plant}
use Rattle.plant_model.specs.Refusals.{first}
use Rattle.plant_file.specs.Finish.{plant_or_first, AnswersPlant}

-- the answer where a refusal is the first
pub plant_or_first-refused : (rs : List PlantError) (p : Plant) (e : PlantError) → first rs ≡ Some e → plant_or_first rs p ≡ Err e
plant_or_first-refused [] p e h = cc
plant_or_first-refused (r ∷ rs) p e h = cc

-- an exit with an error that is the first refusal
pub AnswersPlant-refused : (r : Result Plant PlantError) (rs : List PlantError) (p : Plant) {e : PlantError} → IsErrAnd r (λ y. y ≡ e) → (e ≢ NoMemory → first rs ≡ Some e) → AnswersPlant r (plant_or_first rs p)
AnswersPlant-refused r rs p {e} was named =
    let out = err_from_is_err_and r was in rw (out.1, out.2) (λ ne. plant_or_first-refused rs p e (named ne))

-- an exit with an error, of which this holds
pub stops_with : {T E : Type 0} {e : E} (r : Result T E) (P : E → Type 0) → IsErrAnd r (λ y. y ≡ e) → P e → IfErr r P
stops_with r P was holds = let out = err_from_is_err_and r was in rw (out.1, out.2) holds

-- where two facts of a plant that is made give a third
pub if_ok_both : {T E : Type 0} (r : Result T E) (P Q R : T → Type 0) → ((x : T) → P x → Q x → R x) → IfOk r P → IfOk r Q → IfOk r R
if_ok_both (Ok x) P Q R f p q = f x p q
if_ok_both (Err e) P Q R f p q = tt

-- what holds anyway holds where a plant is made
pub on_ok_always : {T E : Type 0} (r : Result T E) (P : Type 0) → P → OnOk r P
on_ok_always (Ok x) P p = p
on_ok_always (Err e) P p = tt

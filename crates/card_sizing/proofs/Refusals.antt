-- Which refusal an answer isn't.
use Rattle.std.specs.Prelude.{◌≡◌, ℕ, Bool, true, false, ◌↔◌, Ok, Err, IsErrOf}
use Rattle.std.proofs.Common.{refl}
use Rattle.plant_model.specs.declared.plant.Plant.{Plant}
use Rattle.card_sizing.specs.declared.sizing.SizingError.{SizingError}
use Rattle.card_sizing.specs.declared.sizing.SizingError.TheVariants.{NoSingleCount, NoCount, NoMemory}
use Rattle.card_sizing.specs.Counted.{has_stage_counts}
use Rattle.card_sizing.specs.Sizing.{IsSizingRefusal}
use Rattle.card_sizing.proofs.StageSearches.{has_counts}

-- the answer is that there is no count exactly where there is none, if it is that and there is none
pub told_none : {T : Type 0} (has : Bool) → has ≡ false → IsErrOf {T = T} (Err NoSingleCount) NoSingleCount ↔ (has ≡ false)
told_none has none = (λ of. none, λ no. refl)

-- where there is one, an answer isn't that there is none
pub told_some : {T : Type 0} (x : T) (has : Bool) → has ≡ true → IsErrOf {E = SizingError} (Ok x) NoSingleCount ↔ (has ≡ false)
told_some x has some = (λ of. cc, λ none. cc)

-- nor is a count that doesn't serve
pub told_late : {T : Type 0} (job wait : ℕ) (has : Bool) → has ≡ true → IsErrOf {T = T} (Err (NoCount job wait)) NoSingleCount ↔ (has ≡ false)
told_late job wait has some = (λ of. cc, λ none. cc)

-- nor is memory that ran out
pub told_memory : {T : Type 0} (has : Bool) → has ≡ true → IsErrOf {T = T} (Err NoMemory) NoSingleCount ↔ (has ≡ false)
told_memory has some = (λ of. cc, λ none. cc)

-- nor is it why there are no counts for all stages
pub told_refusal : {T : Type 0} (p : Plant) (may : ℕ) (refusal : SizingError) → has_stage_counts p ≡ true → IsSizingRefusal p may refusal → IsErrOf {T = T} (Err refusal) NoSingleCount ↔ (has_stage_counts p ≡ false)
told_refusal p may refusal has refused =
    let other = has_counts p may refusal has refused in (λ of. absurd (other cc), λ none. cc)

-- What is asked, or no memory in place of it.
use Rattle.std.proofs.Common.{◌≡◌, ◌⊎◌, ap}
use Rattle.std.specs.Prelude.{Result, Err}
use Rattle.answers.specs.declared.answer.Answer.{Answer}
use Rattle.commands.specs.Answers.{IsRefusedFor}
use Rattle.live_plant.specs.declared.refusals.refusal.Refusal.{Refusal}
use Rattle.live_plant.specs.declared.refusals.refusal.Refusal.TheVariants.{NoMemory}

-- a refusal as an answer
abbrev pub said : Refusal → Result Answer Refusal
said refusal = Err refusal

-- what is asked, or no memory
abbrev pub OrNoMemory : (Result Answer Refusal → Type 0) → Result Answer Refusal → Type 0
OrNoMemory P answer = P answer ⊎ (answer ≡ Err NoMemory)

-- the refusal of an error
pub refused_for : {E : Type 0} (IsReason : E → Type 0) (refusal_of : E → Refusal) (error : E) (refusal : Refusal) →
    IsReason error → refusal ≡ refusal_of error → IsRefusedFor IsReason refusal_of (said refusal)
refused_for IsReason refusal_of error refusal reason is = record { error = error; reason = reason; says = ap said is }

-- The report at the end of a schedule, or why it can't be followed.
use Rattle.std.proofs.Common.{◌≡◌, ◌⊎◌, ℕ, List, refl, ap, sym, subst, ◌∙◌, ⊎_elim, inl, inr}
use Rattle.std.specs.Prelude.{Result, Ok, Err}
use Rattle.answers.specs.declared.answer.Answer.{Answer}
use Rattle.commands.proofs.OrNoMemory.{OrNoMemory, said}
use Rattle.commands.specs.Answers.{IsEnd}
use Rattle.commands.specs.Reports.{IsReport}
use Rattle.event_graph.specs.State.{State}
use Rattle.line_base.specs.declared.event.Parts.{Parts}
use Rattle.line_core.specs.Schedule.{follow, IsRefusal}
use Rattle.line_core.specs.declared.error.ReplayError.{ReplayError}
use Rattle.line_core.specs.declared.error.ReplayError.TheVariants as replay
use Rattle.plant_model.specs.Graph.{graph}
use Rattle.plant_model.specs.declared.plant.Plant.{Plant}
use Rattle.live_plant.specs.Schedules.{schedule_refusal}
use Rattle.live_plant.specs.declared.refusals.refusal.Refusal.{Refusal}
use Rattle.live_plant.specs.declared.refusals.refusal.Refusal.TheVariants.{NoMemory}

-- a schedule that was followed to its end
pub end_reported : (p : Plant) (schedule : List ℕ) (end : State) (answer : Result Answer Refusal) →
    follow (graph p) schedule ≡ Ok end → OrNoMemory (IsReport p) answer →
    OrNoMemory (IsEnd p (follow (graph p) schedule)) answer
end_reported p schedule end answer followed report =
    subst (λ (r : Result State ReplayError). OrNoMemory (IsEnd p r) answer) (sym followed) report

-- and one that was refused
refusal_ends : (g : Parts) (schedule : List ℕ) (error : ReplayError) → IsRefusal g schedule error →
    (error ≡ replay.NoMemory) ⊎ (follow g schedule ≡ Err error)
refusal_ends g schedule (replay.NoStation line) is = inr is
refusal_ends g schedule (replay.Done line t) is = inr is
refusal_ends g schedule (replay.Empty line a) is = inr is
refusal_ends g schedule (replay.Unfinished t have) is = inr is
refusal_ends g schedule replay.NoMemory is = inl refl

pub end_refused : (p : Plant) (schedule : List ℕ) (error : ReplayError) (refusal : Refusal) →
    IsRefusal (graph p) schedule error → (refusal ≡ NoMemory) ⊎ (refusal ≡ schedule_refusal (graph p) error) →
    OrNoMemory (IsEnd p (follow (graph p) schedule)) (said refusal)
end_refused p schedule error refusal is says =
    ⊎_elim (λ none. inr (ap said none))
    (λ same.
    ⊎_elim (λ memory. inr (ap said (same ∙ ap (schedule_refusal (graph p)) memory)))
    (λ ends. inl (subst (λ (r : Result State ReplayError). IsEnd p r (said refusal)) (sym ends) (ap said same)))
    (refusal_ends (graph p) schedule error is))
    says

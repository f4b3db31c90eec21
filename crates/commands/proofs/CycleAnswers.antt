-- Why a plant has no cycle time.
use Rattle.std.proofs.Common.{◌≡◌, ◌⊎◌, ap, ⊎_elim, inl, inr}
use Rattle.commands.proofs.OrNoMemory.{OrNoMemory, refused_for, said}
use Rattle.commands.specs.Answers.{IsCycled}
use Rattle.cycle_time.specs.Certificate.{IsCycleRefusal}
use Rattle.cycle_time.specs.declared.certificate.CycleError.{CycleError}
use Rattle.plant_model.specs.Graph.{graph}
use Rattle.plant_model.specs.declared.plant.Plant.{Plant}
use Rattle.live_plant.specs.Refusals.{cycle_refusal}
use Rattle.live_plant.specs.declared.refusals.refusal.Refusal.{Refusal}
use Rattle.live_plant.specs.declared.refusals.refusal.Refusal.TheVariants.{NoMemory}

pub cycle_refused : (p : Plant) (error : CycleError) (refusal : Refusal) → IsCycleRefusal (graph p) error →
    (refusal ≡ NoMemory) ⊎ (refusal ≡ cycle_refusal (graph p) error) → OrNoMemory (IsCycled p) (said refusal)
cycle_refused p error refusal why says =
    ⊎_elim (λ none. inr (ap said none))
    (λ same. inl (inr (refused_for (IsCycleRefusal (graph p)) (cycle_refusal (graph p)) error refusal why same))) says

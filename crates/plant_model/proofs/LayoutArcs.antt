-- Where the arcs of a line's stages stand: those of one stage after the other, then the arc to the delivery.
use Rattle.std.proofs.Common.{◌≡◌, ℕ, ◌+◌, ◌*◌, ◌<◌, ◌≤◌, List, [], ◌∷◌, length, ap, arith}
use Rattle.std.proofs.lemmas.List.{take_all}
use Rattle.std.proofs.lemmas.List.Sums.{sum_by_more, sum_by-take-le, sum_by-cons}
use Rattle.plant_model.specs.Stages.{Stage}
use Rattle.plant_model.specs.declared.plant.Plant.{Plant}
use Rattle.plant_model.specs.Line.{no_stage, stage_at, stations_of}
use Rattle.plant_model.specs.ArcNumbers.{arcs_in, entry_arc, delivery_arc}

-- after all stages comes the arc to the delivery
pub entry_arc-all : (p : Plant) → entry_arc p (length p.stages) ≡ delivery_arc p
entry_arc-all p = ap arcs_in (take_all (length p.stages) p.stages (omega arith))

-- the arcs of the next stage stand after those of a stage
pub entry_arc-next : (p : Plant) (i : ℕ) → i < length p.stages → entry_arc p (i + 1) ≡ entry_arc p i + 1 + 3 * length (stage_at p i).machines
entry_arc-next p i below = omega (arith, sum_by_more (λ s. 1 + 3 * length s.machines) p.stages i no_stage below)

pub entry_arc-le : (p : Plant) (i : ℕ) → entry_arc p i ≤ delivery_arc p
entry_arc-le p i = sum_by-take-le (λ s. 1 + 3 * length s.machines) p.stages i

-- three arcs a station at most
pub arcs_in-le : (stages : List Stage) → arcs_in stages ≤ 3 * stations_of stages
arcs_in-le [] = omega arith
arcs_in-le (s ∷ stages) =
    omega (arith, arcs_in-le stages, sum_by-cons (λ s. 1 + 3 * length s.machines) s stages, sum_by-cons (λ s. 1 + length s.machines) s stages)

-- Where the stations of a line stand: releases one after the other, each stage's machines between them, the delivery
-- last.
use Rattle.std.proofs.Common.{◌≡◌, ℕ, ◌+◌, ◌<◌, ◌≤◌, length, take, Option, None, Some, refl, ap, arith}
use Rattle.std.specs.Option.{option_map_or}
use Rattle.std.proofs.lemmas.List.{take_all, take-take}
use Rattle.std.proofs.lemmas.List.Sums.{sum_by_more, sum_by-take-le}
use Rattle.plant_model.specs.declared.plant.Plant.{Plant}
use Rattle.plant_model.specs.Line.{no_stage, stations_of, release, last_machine, deliver, next, receiver}
use Rattle.plant_model.specs.Sound.{IsSound}
use Rattle.plant_model.proofs.SoundPlants.{IsSoundStage-sound}

-- the next release stands after the release and the machines
pub release-next : (p : Plant) (i : ℕ) → i < length p.stages → release p (i + 1) ≡ last_machine p i + 1
release-next p i below = omega (arith, sum_by_more (λ s. 1 + length s.machines) p.stages i no_stage below)

-- after all stages the delivery follows
pub release-all : (p : Plant) → release p (length p.stages) ≡ deliver p
release-all p = ap (λ stages. 1 + stations_of stages) (take_all (length p.stages) p.stages (omega arith))

-- releases stand in order
pub release-le : (p : Plant) (i j : ℕ) → i ≤ j → release p i ≤ release p j
release-le p i j le =
    let prefix = sum_by-take-le (λ s. 1 + length s.machines) (take j p.stages) i in
    let same = ap stations_of (take-take i j p.stages le) in
    omega arith

-- the last machine of a stage stands before the delivery
pub last_machine-below : (p : Plant) (i : ℕ) → i < length p.stages → last_machine p i < deliver p
last_machine-below p i below =
    let up = release-le p (i + 1) (length p.stages) (omega arith) in
    omega (arith, release-next p i below, release-all p, up)

pub release-below : (p : Plant) (i : ℕ) → i < length p.stages → release p i < deliver p
release-below p i below = omega (arith, last_machine-below p i below)

-- what holds of the delivery and of each later release holds of what takes a stage's parts
pub at_receiver : (p : Plant) (i : ℕ) (P : ℕ → Type 0) → IsSound p → i < length p.stages → P (deliver p) → ((j : ℕ) → i < j → j < length p.stages → P (release p j)) → P (receiver p i)
at_receiver p i P sound below here there =
    let later = (IsSoundStage-sound p i sound below).feeds_later in
    by_next (next p i) later
  where
    by_next : (o : Option ℕ) → ((j : ℕ) → o ≡ Some j → (i < j) × (j < length p.stages)) → P (option_map_or (release p) o (deliver p))
    by_next None later = here
    by_next (Some j) later = let h = later j refl in there j h.0 h.1

-- the station that takes a stage's parts stands after it, and is the delivery at most
pub receiver-above : (p : Plant) (i : ℕ) → IsSound p → i < length p.stages → (last_machine p i < receiver p i) × (receiver p i ≤ deliver p)
receiver-above p i sound below =
    at_receiver p i (λ t. (last_machine p i < t) × (t ≤ deliver p)) sound below
    (last_machine-below p i below, omega arith)
    (λ j after inside. (omega (arith, release-next p i below, release-le p (i + 1) j (omega arith)), omega (arith, release-below p j inside)))

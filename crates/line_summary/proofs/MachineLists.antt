-- Machines as they are read in lists.
use Rattle.std.proofs.Common.{◌≡◌, ℕ, ◌<◌, ◌≤◌, List, length, get_or, refl, ap, ◌∙◌, arith}
use Rattle.std.proofs.lemmas.List.{get_or_read}
use Rattle.plant_model.specs.declared.plant.Plant.{Plant}
use Rattle.plant_model.specs.Stages.{Machine, Stage}
use Rattle.plant_model.specs.Line.{stage_at, machine_at, no_machine}
use Rattle.plant_model.specs.Sound.{IsSound}
use Rattle.plant_model.proofs.LayoutStations.{last_machine-below}
use Rattle.plant_model.proofs.SoundPlants.{HasSoundSizes-sound}
use Rattle.line_summary.specs.declared.machines.MachineUse.{MachineUse}
use Rattle.line_summary.specs.Machines.{busy, use_of}

-- the machine that was read at a number
pub machine_read : (p : Plant) (i j : ℕ) (s : Stage) (machines : List Machine) (m : Machine) → s ≡ stage_at p i → machines ≡ s.machines → j < length machines → m ≡ get_or machines j m → m ≡ machine_at p i j
machine_read p i j s machines m read same below is =
    get_or_read machines j m below is no_machine ∙ ap (λ (ms : List Machine). get_or ms j no_machine) (same ∙ ap (λ (t : Stage). t.machines) read)

-- a stage has few machines
pub few_machines : (p : Plant) (i : ℕ) → IsSound p → i < length p.stages → length (stage_at p i).machines ≤ 512
few_machines p i sound below =
    let sizes = HasSoundSizes-sound p sound in omega (arith, last_machine-below p i below)

pub use-read : (p : Plant) (i j servers time : ℕ) → servers ≡ (machine_at p i j).servers → time ≡ busy p i j → ◌≡◌ {A = MachineUse} (record { stage = i; machine = j; servers = servers; busy = time }) (use_of p i j)
use-read p i j servers time of_machine works = rw (of_machine, works) refl

-- How busy the machines of a plant are. Stages and machines count from 0, jobs from 1.
use Rattle.std.specs.Prelude.{ℕ, ◌*◌, nat_lt, Bool, List, [], ◌∷◌, ◌++◌, map, sum_by, codes}
use Rattle.std.specs.List.{flat_map, best_of}
use Rattle.line_base.specs.Times.{time_at}
use Rattle.plant_model.specs.declared.plant.Plant.{Plant}
use Rattle.plant_model.specs.Line.{stage_at, machine_at, stage_numbers, machine_numbers}
use Rattle.plant_model.specs.Graph.{graph}
use Rattle.line_stats.specs.Counts.{job_numbers}
use Rattle.line_summary.specs.declared.machines.MachineUse.{MachineUse}

-- how long machine j of stage i works on all jobs together
unfoldable pub busy : Plant → ℕ → ℕ → ℕ
busy p i j = sum_by (time_at (machine_at p i j).times) (job_numbers (graph p))

-- machine j of stage i, with its servers and how long it works
abbrev pub use_of : Plant → ℕ → ℕ → MachineUse
use_of p i j = record { stage = i; machine = j; servers = (machine_at p i j).servers; busy = busy p i j }

-- the machines of stage i, and all machines, in order
abbrev pub stage_uses : Plant → ℕ → List MachineUse
stage_uses p i = map (use_of p i) (machine_numbers p i)

unfoldable pub machine_uses : Plant → List MachineUse
machine_uses p = flat_map (stage_uses p) (stage_numbers p)

-- whether the first machine is busier than the second, in proportion to their servers
abbrev pub is_busier : MachineUse → MachineUse → Bool
is_busier a b = nat_lt (b.busy * a.servers) (a.busy * b.servers)

-- the first machine than which none is busier
abbrev pub busiest_of : List MachineUse → MachineUse
busiest_of [] = record { stage = 0; machine = 0; servers = 0; busy = 0 }
busiest_of (first ∷ others) = best_of is_busier first others

-- the label of a machine: the name of its stage, a dot, its name
abbrev pub label_of : Plant → MachineUse → List ℕ
label_of p u = (stage_at p u.stage).name ++ (codes "." ++ (machine_at p u.stage u.machine).name)

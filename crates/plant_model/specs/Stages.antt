-- Stages and their machines. Those of a plant have job times; those of a plant that is still to be read have in their
-- place where the times stand.
use Rattle.std.specs.Prelude.{ℕ, List}
use Rattle.line_base.specs.declared.times.Times.{Times}
use Rattle.plant_model.specs.declared.plant.Machine.{Machine as MachineOf}
use Rattle.plant_model.specs.declared.plant.Stage.{Stage as StageOf}

-- a machine of a plant
abbrev pub Machine : Type 0
Machine = MachineOf Times

-- a stage of a plant
abbrev pub Stage : Type 0
Stage = StageOf Times

-- a machine with one server
abbrev pub one_server : {T : Type 0} → List ℕ → T → MachineOf T
one_server name times = record { name = name; servers = 1; times = times }

-- the machine with these job times in place of its own
abbrev pub with_times : {T U : Type 0} → MachineOf T → U → MachineOf U
with_times m times = record { name = m.name; servers = m.servers; times = times }

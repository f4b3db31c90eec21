use Rattle.std.proofs.Common.{map, take}
use Rattle.toml.specs.View.{view}
use Rattle.plant_keys.specs.Code.{views}
use Rattle.plant_keys.specs.Readers.{name_in}
use Rattle.plant_keys.specs.Rules.{machine_name_twice}
use Rattle.plant_keys.specs.Faults.{plain}
use Rattle.plant_keys.specs.Seen.{HaveSame}
use Rattle.plant_keys.proofs.GatheredFaults.{Gathered}
use Rattle.plant_keys.proofs.twice.find_in_machines.Given as goal

abbrev pub invariant-loop-j : goal.invariant-loop-j
invariant-loop-j l =
    Gathered (λ j m. plain (machine_name_twice l.i (map name_in (views l.machines)) j (view m))) l.machines l.j l.initial.faults l.faults
    × HaveSame l.seen (take l.j (map name_in (views l.machines)))

use Rattle.std.proofs.Common.{map, take}
use Rattle.toml.specs.View.{view}
use Rattle.plant_keys.specs.Code.{views}
use Rattle.plant_keys.specs.Readers.{name_in}
use Rattle.plant_keys.specs.Seen.{HaveSame}
use Rattle.plant_keys.specs.Walk.{feeds_faults}
use Rattle.plant_keys.proofs.GatheredFaults.{Gathered}
use Rattle.plant_keys.proofs.flow.find_each_feed.Given as goal

abbrev pub invariant-loop-i : goal.invariant-loop-i
invariant-loop-i l =
    Gathered (λ i s. feeds_faults (map name_in (views l.stages)) i (view s)) l.stages l.i l.initial.faults l.faults
    × HaveSame l.earlier (take l.i (map name_in (views l.stages)))

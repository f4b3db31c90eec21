use Rattle.std.proofs.Common.{◌≡◌, [], map, take}
use Rattle.toml.specs.View.{view}
use Rattle.plant_keys.specs.Code.{views}
use Rattle.plant_keys.specs.Readers.{name_in}
use Rattle.plant_keys.specs.Rules.{stage_name_twice, stage_names_twice}
use Rattle.plant_keys.specs.Faults.{plain}
use Rattle.plant_keys.specs.Seen.{HaveSame}
use Rattle.plant_keys.proofs.GatheredFaults.{Gathered}
use Rattle.plant_keys.proofs.twice.find_twice.Given as goal

abbrev pub invariant-loop-i : goal.invariant-loop-i
invariant-loop-i l =
    record {
      found : Gathered (λ i s. plain (stage_name_twice (take i (map name_in (views l.stages))) i (view s))) l.stages l.i l.initial.faults l.faults;
      same : HaveSame l.seen (take l.i (map name_in (views l.stages)));
      exact : stage_names_twice (views l.stages) ≡ [] → l.seen ≡ take l.i (map name_in (views l.stages));
    }

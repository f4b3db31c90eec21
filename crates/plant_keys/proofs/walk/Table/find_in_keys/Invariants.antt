use Rattle.toml.specs.View.{view}
use Rattle.plant_keys.specs.Code.{key_of}
use Rattle.plant_keys.specs.Walk.{key_faults}
use Rattle.plant_keys.proofs.GatheredFaults.{Gathered}
use Rattle.plant_keys.proofs.walk.Table.find_in_keys.Given as goal

abbrev pub invariant-loop-key : goal.invariant-loop-key
invariant-loop-key l =
    Gathered (λ _ k. key_faults l.self.class l.self.place (view l.self.value.now) (key_of k)) l.keys l.key-index l.initial.faults l.faults

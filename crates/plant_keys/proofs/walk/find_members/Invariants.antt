use Rattle.toml.specs.View.{table_view, members_view}
use Rattle.plant_keys.specs.Code.{keys_of}
use Rattle.plant_keys.specs.Rules.{unknown_keys}
use Rattle.plant_keys.specs.Faults.{plain}
use Rattle.plant_keys.proofs.FoundFaults.{Left}
use Rattle.plant_keys.proofs.walk.find_members.Given as goal

abbrev pub invariant-loop-name : goal.invariant-loop-name
invariant-loop-name l =
    Left l.initial.faults l.faults (plain (unknown_keys l.table (keys_of l.keys) (table_view l.members)))
    (plain (unknown_keys l.table (keys_of l.keys) (members_view l.name-iterator)))

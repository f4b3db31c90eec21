use Rattle.std.proofs.Common.{refl}
use Rattle.plant_keys.specs.Walk.{tree_faults}
use Rattle.plant_keys.proofs.FoundFaults.{finds_both, finds_out}
use Rattle.plant_keys.proofs.tree.find_in_plant.Goals as goal

pub returns-then-is_done-clause-found : goal.returns-then-is_done-clause-found
unfolding tree_faults
returns-then-is_done-clause-found c = finds_both _ _ _ _ _ c.find_first.ensures (c.if-is_done.ensures refl _)

pub returns-in-Ok-clause-found : goal.returns-in-Ok-clause-found
unfolding tree_faults
returns-in-Ok-clause-found c = finds_both _ _ _ _ _ c.find_first.ensures c.in-Ok.ensures.found

pub returns-in-Err-clause-found : goal.returns-in-Err-clause-found
returns-in-Err-clause-found c = finds_out _ _ _ c.run_out.ensures

use Rattle.std.proofs.Common.{◌∷◌, []}
use Rattle.plant_keys.proofs.FoundFaults.{finds_out}
use Rattle.plant_keys.proofs.faults.Faults.add.Goals as goal

pub returns-in-Err : goal.returns-in-Err
returns-in-Err c f given = finds_out _ _ (f ∷ []) c.run_out.ensures

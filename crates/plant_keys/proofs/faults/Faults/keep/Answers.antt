use Rattle.std.proofs.Common.{◌∷◌, []}
use Rattle.plant_keys.proofs.FoundFaults.{finds_out}
use Rattle.plant_keys.proofs.faults.Faults.keep.Goals as goal

pub returns-in_default : goal.returns-in_default
returns-in_default c = finds_out _ _ (c.args.fault ∷ []) c.run_out.ensures

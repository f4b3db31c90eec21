use Rattle.plant_keys.proofs.FoundFaults.{finds_out}
use Rattle.plant_lint.proofs.records.find_time.Goals as goal

pub returns-in_default : goal.returns-in_default
returns-in_default c = finds_out _ _ _ c.run_out.ensures

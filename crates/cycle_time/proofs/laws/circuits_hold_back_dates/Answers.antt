use Rattle.cycle_time.proofs.Dates.{circuit_holds}
use Rattle.cycle_time.proofs.laws.circuits_hold_back_dates.Goals as goal

pub returns : goal.returns
returns c = circuit_holds

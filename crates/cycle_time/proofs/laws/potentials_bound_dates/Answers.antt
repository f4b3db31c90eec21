use Rattle.cycle_time.proofs.Dates.{bounds_dates}
use Rattle.cycle_time.proofs.laws.potentials_bound_dates.Goals as goal

pub returns : goal.returns
returns c = bounds_dates

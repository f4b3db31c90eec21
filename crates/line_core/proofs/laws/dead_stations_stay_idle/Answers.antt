use Rattle.line_core.proofs.DeadStations.{stays_idle}
use Rattle.line_core.proofs.laws.dead_stations_stay_idle.Goals as goal

pub returns : goal.returns
returns c = stays_idle

use Rattle.circuit_sums.proofs.StageLines.{stage_line, stage_stations, path_line}
use Rattle.circuit_sums.proofs.laws.onward_arcs_lead_on.Goals as goal

pub returns-clause-stages : goal.returns-clause-stages
returns-clause-stages c = λ p sound i below. (stage_line p i sound below).leads

pub returns-clause-stations : goal.returns-clause-stations
returns-clause-stations c = stage_stations

pub returns-clause-paths : goal.returns-clause-paths
returns-clause-paths c = λ p sound a b below down. (path_line p a b sound below down).leads

use Rattle.cycle_time.proofs.WalkWeights.{certificate_bounds}
use Rattle.cycle_time.proofs.laws.certificates_bound_every_ratio.Goals as goal

pub returns : goal.returns
returns c = certificate_bounds

use Rattle.circuit_sums.proofs.Bounds.{bounds-hold}
use Rattle.circuit_sums.proofs.laws.bounds_hold.Goals as goal

pub returns : goal.returns
returns c = bounds-hold

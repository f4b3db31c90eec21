use Rattle.circuit_sums.proofs.Bounds.{bounds-have-circuits}
use Rattle.circuit_sums.proofs.laws.bounds_have_circuits.Goals as goal

pub returns : goal.returns
returns c = bounds-have-circuits

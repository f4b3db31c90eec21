use Rattle.date_causes.proofs.Chains.{walk-le}
use Rattle.date_causes.proofs.laws.no_walk_sums_to_more.Goals as goal

pub returns : goal.returns
returns c g x least = walk-le g x least.solves

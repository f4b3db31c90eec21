use Rattle.date_causes.proofs.Chains.{chain_sums, chain_walks}
use Rattle.date_causes.proofs.laws.dates_sum_their_chains.Goals as goal

pub returns-clause-sums : goal.returns-clause-sums
returns-clause-sums c = chain_sums

pub returns-clause-walks : goal.returns-clause-walks
returns-clause-walks c = chain_walks

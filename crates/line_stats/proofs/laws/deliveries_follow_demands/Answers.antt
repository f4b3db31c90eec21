use Rattle.line_stats.proofs.Flows.{delivery-after}
use Rattle.line_stats.proofs.laws.deliveries_follow_demands.Goals as goal

pub returns : goal.returns
returns c = λ p sound x solves n some few. delivery-after p x n solves some few

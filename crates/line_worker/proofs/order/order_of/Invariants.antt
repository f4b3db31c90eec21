use Rattle.line_worker.specs.Order.{IsOrderUpto}
use Rattle.line_worker.proofs.order.order_of.Given as goal

abbrev pub invariant-loop-rank : goal.invariant-loop-rank
invariant-loop-rank l = IsOrderUpto l.live.ranks l.first l.count l.order.items l.rank

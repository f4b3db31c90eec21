use Rattle.live_check.proofs.Upward.{complete_ordered}
use Rattle.live_check.proofs.live.Live.of.Goals as goal

pub invariant_of-result : goal.invariant_of-result
invariant_of-result c =
    let order = c.into_order-ranks.ensures in
    rw (order.ranks, order.order) (complete_ordered c.args.graph c.args.ranking c.requires.complete c.requires.all)

pub returns-clause-ranked : goal.returns-clause-ranked
returns-clause-ranked c = (invariant_of-result c).ranked

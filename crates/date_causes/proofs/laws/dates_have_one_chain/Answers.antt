use Rattle.event_graph.proofs.GreatestTerms.{greatest_of_terms}
use Rattle.live_check.proofs.LiveOrder.{has_order}
use Rattle.date_causes.proofs.OneChain.{has_one_chain}
use Rattle.date_causes.proofs.laws.dates_have_one_chain.Goals as goal

pub returns : goal.returns
returns c g x graph live least =
    let order = has_order g graph live in
    has_one_chain g x order.0 graph (greatest_of_terms g x graph least) order.1

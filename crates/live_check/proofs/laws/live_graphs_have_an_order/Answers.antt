use Rattle.live_check.proofs.LiveOrder.{has_order}
use Rattle.live_check.proofs.laws.live_graphs_have_an_order.Goals as goal

pub returns : goal.returns
returns c = has_order

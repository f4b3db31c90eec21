use Rattle.card_sizing.proofs.LoweredOnce.{each_once}
use Rattle.card_sizing.proofs.laws.counts_in_order_are_one.Goals as goal

pub returns : goal.returns
returns c = each_once

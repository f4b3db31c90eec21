use Rattle.card_sizing.proofs.EnoughCards.{serves_more}
use Rattle.card_sizing.proofs.laws.more_cards_serve.Goals as goal

pub returns : goal.returns
returns c = serves_more

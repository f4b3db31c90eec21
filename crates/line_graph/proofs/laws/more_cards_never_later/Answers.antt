use Rattle.line_graph.proofs.MoreCards.{arcs_never_later, cards_never_later}
use Rattle.line_graph.proofs.laws.more_cards_never_later.Goals as goal

pub returns-clause-arcs : goal.returns-clause-arcs
returns-clause-arcs c = λ few many sound differ more live. arcs_never_later few many differ sound more live

pub returns-clause-cards : goal.returns-clause-cards
returns-clause-cards c = λ few many sound more live. cards_never_later few many more sound live

use Rattle.line_graph.proofs.ExtendedLaws as laws
use Rattle.line_graph.proofs.laws.extended_is_base_stock.Goals as goal

pub returns : goal.returns
returns c = λ p sound is cover. laws.extended_is_base_stock p sound is cover

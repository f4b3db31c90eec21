use Rattle.line_graph.proofs.ExtendedLaws as laws
use Rattle.line_graph.proofs.laws.extended_is_kanban.Goals as goal

pub returns : goal.returns
returns c = λ p sound is equal. laws.extended_is_kanban p sound is equal

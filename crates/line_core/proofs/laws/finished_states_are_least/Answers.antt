use Rattle.line_core.proofs.Solution.{finished_is_least}
use Rattle.line_core.proofs.laws.finished_states_are_least.Goals as goal

pub returns : goal.returns
returns c = λ g some graph s reached finished. finished_is_least g s some graph reached finished

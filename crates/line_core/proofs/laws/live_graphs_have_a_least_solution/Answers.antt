use Rattle.line_core.proofs.Existence.{has_least}
use Rattle.line_core.proofs.laws.live_graphs_have_a_least_solution.Goals as goal

pub returns : goal.returns
returns c = has_least

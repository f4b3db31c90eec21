use Rattle.line_core.proofs.Consistency.{reached_is_consistent}
use Rattle.line_core.proofs.laws.reached_states_are_consistent.Goals as goal

pub returns : goal.returns
returns c = reached_is_consistent

use Rattle.line_worker.proofs.Grown.{grown_is_reached}
use Rattle.line_workers.proofs.laws.logs_that_grow_from_a_state_are_reached.Goals as goal

pub returns : goal.returns
returns c = grown_is_reached

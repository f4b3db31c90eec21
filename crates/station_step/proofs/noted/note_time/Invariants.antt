use Rattle.station_step.proofs.NotedExtras.{NotedUpTo}
use Rattle.station_step.proofs.noted.note_time.Given as goal

abbrev pub invariant-loop-k : goal.invariant-loop-k
invariant-loop-k l = NotedUpTo l.k l.worked l.time l.fn.inputs.items l.noted-items

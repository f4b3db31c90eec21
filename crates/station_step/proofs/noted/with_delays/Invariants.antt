use Rattle.station_step.proofs.NotedExtras.{DelaysUpTo}
use Rattle.station_step.proofs.noted.with_delays.Given as goal

abbrev pub invariant-loop-outlet : goal.invariant-loop-outlet
invariant-loop-outlet l = DelaysUpTo l.graph l.t l.noted.items l.outlet-iterator.rest.items l.fn.outlets.items

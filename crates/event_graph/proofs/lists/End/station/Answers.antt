use Rattle.std.proofs.Common.{refl}
use Rattle.event_graph.proofs.lists.End.station.Goals as goal

pub returns-in-Start : goal.returns-in-Start
returns-in-Start c = rw c.in-Start.is refl

pub returns-in-Finish : goal.returns-in-Finish
returns-in-Finish c = rw c.in-Finish.is refl

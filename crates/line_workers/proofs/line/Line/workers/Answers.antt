use Rattle.line_workers.proofs.LineBurst.{turns-low}
use Rattle.line_workers.proofs.line.Line.workers.Goals as goal

pub returns-clause-turns : goal.returns-clause-turns
returns-clause-turns c = turns-low c.self.inside.workers.items c.self.inside.made c.self.invariant.rest

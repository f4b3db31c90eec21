use Rattle.std.proofs.Common.{subst}
use Rattle.line_workers.specs.Line.{IsLine}
use Rattle.line_workers.proofs.Lines.{at_rest_is_line}
use Rattle.line_workers.proofs.line.Line.worker_count.Goals as goal

pub returns-clause-line : goal.returns-clause-line
returns-clause-line c = subst IsLine c.self.view_is (at_rest_is_line c.self.inside.workers.items c.self.inside.made c.self.invariant.rest)

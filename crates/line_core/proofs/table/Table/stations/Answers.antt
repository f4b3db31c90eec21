use Rattle.std.proofs.Common.{subst}
use Rattle.line_core.specs.Run.{IsLeastTable}
use Rattle.line_core.proofs.table.Table.stations.Goals as goal

pub returns-clause-least : goal.returns-clause-least
returns-clause-least c = subst IsLeastTable c.self.view_is c.self.invariant

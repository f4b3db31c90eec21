use Rattle.std.proofs.Common.{subst}
use Rattle.what_if.specs.Sheet.{IsSheet}
use Rattle.what_if.proofs.sheet.Sheet.time.Goals as goal

pub returns-clause-kept : goal.returns-clause-kept
returns-clause-kept c = subst IsSheet c.self.view_is c.self.invariant.sheet

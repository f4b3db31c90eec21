use Rattle.std.proofs.Common.{ap, subst}
use Rattle.what_if.specs.Page.{Page}
use Rattle.what_if.specs.Sheet.{IsSheet}
use Rattle.what_if.proofs.sheet.Sheet.evaluations.Goals as goal

pub returns-clause-evaluations : goal.returns-clause-evaluations
returns-clause-evaluations c = ap (λ (p : Page). p.evaluations) c.self.view_is

pub returns-clause-kept : goal.returns-clause-kept
returns-clause-kept c = subst IsSheet c.self.view_is c.self.invariant.sheet

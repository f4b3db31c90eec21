use Rattle.std.proofs.Common.{ap, ◌∙◌, subst}
use Rattle.what_if.specs.Page.{Page, mark_count}
use Rattle.what_if.specs.Sheet.{IsSheet}
use Rattle.what_if.proofs.sheet.Sheet.marks.Goals as goal

pub returns-clause-marks : goal.returns-clause-marks
returns-clause-marks c = c.count.ensures ∙ ap (λ (p : Page). mark_count p) c.self.view_is

pub returns-clause-kept : goal.returns-clause-kept
returns-clause-kept c = subst IsSheet c.self.view_is c.self.invariant.sheet

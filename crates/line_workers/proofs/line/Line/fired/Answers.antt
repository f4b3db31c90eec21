use Rattle.std.proofs.Common.{ap, ◌∙◌, subst}
use Rattle.line_core.specs.Consistent.{firing_count}
use Rattle.line_workers.specs.Line.{WorkLine, IsLine}
use Rattle.line_workers.proofs.Lines.{at_rest_is_line}
use Rattle.line_workers.proofs.line.Line.fired.Goals as goal

pub returns-clause-fired : goal.returns-clause-fired
returns-clause-fired c = c.self.invariant.counts.fired ∙ ap (λ (l : WorkLine). firing_count l.state) c.self.view_is

pub returns-clause-line : goal.returns-clause-line
returns-clause-line c = subst IsLine c.self.view_is (at_rest_is_line c.self.inside.workers.items c.self.inside.made c.self.invariant.rest)

use Rattle.std.proofs.Common.{◌∙◌, sym}
use Rattle.line_base.specs.Roomy.{dates_of}
use Rattle.line_core.proofs.PartsLemmas.{wrong_date-first, wrong_date-none}
use Rattle.line_core.proofs.parts.check_date.Goals as goal

pub returns-then-have-need : goal.returns-then-have-need
returns-then-have-need c =
    wrong_date-none c.args.graph.now (dates_of c.args.logs.now) c.args.station c.args.job (sym c.requires.date ∙ c.if-have-need.true ∙ c.due_date-need.ensures)

pub returns : goal.returns
returns c =
    wrong_date-first c.args.graph.now (dates_of c.args.logs.now) c.args.station c.args.job _ _ c.requires.date c.due_date-need.ensures c.if-have-need.false

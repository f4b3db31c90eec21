use Rattle.std.proofs.Common.{ap, length, subst}
use Rattle.line_base.specs.Roomy.{dates_of}
use Rattle.line_core.specs.Parts.{AnswersFirst, wrong_count, wrong_marking}
use Rattle.line_core.proofs.parts.check_marking.Goals as goal

pub returns : goal.returns
unfolding wrong_marking
returns c =
    subst (λ n. AnswersFirst c.check_count.result (wrong_count c.args.graph.now (dates_of c.args.logs.now) c.args.arc n)) (ap length c.dates_at.ensures) c.check_count.ensures

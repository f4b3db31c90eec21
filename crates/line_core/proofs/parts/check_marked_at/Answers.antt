use Rattle.std.proofs.Common.{ℕ, List, ap, subst}
use Rattle.std.specs.Prelude.{slice_index}
use Rattle.line_base.specs.Roomy.{dates_of}
use Rattle.line_core.specs.Parts.{AnswersFirst, wrong_count}
use Rattle.line_core.specs.Marked.{wrong_marked}
use Rattle.line_core.proofs.parts.check_marked_at.Goals as goal

pub returns : goal.returns
unfolding wrong_marked
returns c =
    subst (λ n. AnswersFirst c.check_count.result (wrong_count c.args.graph.now (dates_of c.args.logs.now) c.args.arc n)) (ap (λ (l : List ℕ). slice_index l c.args.arc) c.as_slice-counts.ensures) c.check_count.ensures

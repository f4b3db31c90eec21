use Rattle.std.proofs.Common.{◌≢◌, sym, ap, ◌∙◌, eqb}
use Rattle.std.specs.Prelude.{codes}
use Rattle.std.proofs.lemmas.Bool.{true≢false}
use lib.Pointwise.{pointwise}
use Rattle.what_if.proofs.WordsOfEdits.{one_word-no_edit, other-no_edit}
use Rattle.what_if.proofs.reader.read_edit.Goals as goal

pub returns-in_err-word-clause-tells : goal.returns-in_err-word-clause-tells
returns-in_err-word-clause-tells c edit writes =
    absurd (one_word-no_edit c.args.graph.now c.args.line.now edit c.in_err-word.ensures writes)

pub returns-else-eq-2-clause-tells : goal.returns-else-eq-2-clause-tells
returns-else-eq-2-clause-tells c edit writes =
    let word = c.in_ok-word.word.now in
    let no_time : word ≢ codes "time" = λ e. true≢false (sym (c.eq.ensures ∙ ap (λ w. pointwise eqb w c.as_slice.result.now) e ∙ ap (pointwise eqb (codes "time")) c.as_slice.ensures) ∙ c.if-eq.false) in
    let no_demand : word ≢ codes "demand" = λ e. true≢false (sym (c.eq-else-eq.ensures ∙ ap (λ w. pointwise eqb w c.as_slice-else-eq.result.now) e ∙ ap (pointwise eqb (codes "demand")) c.as_slice-else-eq.ensures) ∙ c.if-eq-2.false) in
    absurd (other-no_edit c.args.graph.now c.args.line.now word c.in_ok-word.rest.now edit c.in_ok-word.ensures no_time no_demand writes)

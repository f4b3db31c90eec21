use Rattle.std.proofs.Common.{[], ◌∷◌, ◌++◌}
use Rattle.std.specs.Prelude.{Ok, Err}
use Rattle.std.proofs.lemmas.Result.{err_from_is_err_and}
use Rattle.answers.proofs.Sent.{writes_after, breaks_off}
use Rattle.answers.proofs.lines.put_line.Goals as goal

pub returns-in_err-put_text : goal.returns-in_err-put_text
returns-in_err-put_text g c =
    let p = err_from_is_err_and c.from_residual.result c.from_residual.ensures.1 in
    let words = c.args.words.now in
    let named = c.args.named.now in
    rw p.1 (breaks_off (words ++ named) (10 ∷ []) p.0 (breaks_off words named p.0 c.in_err-put_text.ensures))

pub returns-in_err-put_text-2 : goal.returns-in_err-put_text-2
returns-in_err-put_text-2 g c =
    let p = err_from_is_err_and c.from_residual-in_err-put_text-2.result c.from_residual-in_err-put_text-2.ensures.1 in
    let words = c.args.words.now in
    let named = c.args.named.now in
    let first = c.in_ok-put_text.ensures in
    rw p.1 (breaks_off (words ++ named) (10 ∷ []) p.0 (writes_after words named (Err p.0) first.written first.faults_stay_or_rise c.in_err-put_text-2.ensures))

pub returns : goal.returns
returns g c =
    let words = c.args.words.now in
    let named = c.args.named.now in
    let first = c.in_ok-put_text.ensures in
    let both = writes_after words named (Ok tt) first.written first.faults_stay_or_rise c.in_ok-put_text-2.ensures in
    writes_after (words ++ named) (10 ∷ []) c.put_text-3.result both.written both.faults_stay_or_rise c.put_text-3.ensures

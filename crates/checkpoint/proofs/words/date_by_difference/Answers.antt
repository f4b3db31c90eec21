use Rattle.std.proofs.Common.{◌≡◌, ◌-◌, ◌∷◌, [], Some, sym, ap, ◌∙◌, arith, ⊎_elim, cond}
use Rattle.std.specs.Prelude.{decimal}
use Rattle.std.proofs.lemmas.Bool.{cases_lt, lt-ltb, le-ltb}
use Rattle.std.proofs.lemmas.Bool.Decides.{Decides-eqb}
use Rattle.std.proofs.lemmas.Slice.Eq.{strip_prefix_is}
use Rattle.checkpoint.proofs.WordBytes.{no_minus}
use Rattle.checkpoint.proofs.words.date_by_difference.Goals as goal

pub returns-in-Some-clause-tells : goal.returns-in-Some-clause-tells
returns-in-Some-clause-tells c date given is =
    let before = c.args.before in
    let text = c.in-Some.text.now in
    let whole : c.args.word.now ≡ 45 ∷ text = strip_prefix_is Decides-eqb c.args.word.now (45 ∷ []) (Some c.in-Some.text) c.in-Some.ensures.cases in
    ⊎_elim
    (λ less.
    let word = is ∙ ap (λ b. cond b (45 ∷ decimal (before - date)) (decimal (date - before))) (lt-ltb date before less) in
    let size : text ≡ decimal (before - date) = cc (sym whole ∙ word) in
    c.earlier_date.ensures.tells date less size)
    (λ more.
    let word = is ∙ ap (λ b. cond b (45 ∷ decimal (before - date)) (decimal (date - before))) (le-ltb date before more) in
    absurd (no_minus (date - before) text (omega arith) (sym word ∙ whole)))
    (cases_lt date before)

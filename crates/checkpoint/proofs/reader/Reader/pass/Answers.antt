use Rattle.std.proofs.Common.{◌++◌, length, drop, sym, ap, ◌∙◌, refl}
use Rattle.std.proofs.lemmas.Bool.Decides.{Decides-eqb}
use Rattle.std.proofs.lemmas.List.{drop-drop, drop_at}
use Rattle.std.proofs.lemmas.Slice.Eq.{starts_is}
use Rattle.checkpoint.specs.Reading.{Reading}
use Rattle.checkpoint.proofs.reader.Reader.pass.Goals as goal

pub returns-then-not-starts_with-clause-tells : goal.returns-then-not-starts_with-clause-tells
returns-then-not-starts_with-clause-tells c after is =
    let starts = (starts_is Decides-eqb c.rest.result.now c.args.expected.now c.starts_with.result c.starts_with.ensures.value).1 after (c.rest.ensures ∙ is) in
    cc (starts, c.if-not-starts_with.true)

pub returns-clause-passed : goal.returns-clause-passed
returns-clause-passed c _ =
    let p = c.args.expected.now in
    let view = ap (λ (r : Reading). r.rest) c.self.view_is in
    let is = (starts_is Decides-eqb c.rest.result.now p c.starts_with.result c.starts_with.ensures.value).0 c.if-not-starts_with.false in
    sym c.rest.ensures
    ∙ is
    ∙ ap (λ l. p ++ drop (length p) l) (c.rest.ensures ∙ sym view)
    ∙ ap (λ l. p ++ l) (drop-drop (length p) c.self.inside.at c.self.inside.text.now)

pub returns-clause-tells : goal.returns-clause-tells
returns-clause-tells c after is =
    let p = c.args.expected.now in
    let view = ap (λ (r : Reading). r.rest) c.self.view_is in
    (refl, sym (drop-drop (length p) c.self.inside.at c.self.inside.text.now) ∙ ap (drop (length p)) (view ∙ is) ∙ drop_at p after (length p) refl)

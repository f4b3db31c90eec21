use Rattle.std.proofs.Common.{[], ◌∷◌, ◌++◌, ap, ◌∙◌, sym, subst}
use Rattle.std.specs.Prelude.{IsTrue}
use Rattle.std.proofs.lemmas.List.Elements.{All-push}
use Rattle.line_base.specs.Text.{is_label}
use Rattle.line_graph.specs.Labels.{AreLabels}
use Rattle.line_graph.proofs.labels.add_label.Goals as goal

pub returns-clause-added : goal.returns-clause-added
returns-clause-added c =
    c.in_ok-push.ensures.items ∙ ap (λ text. c.args.all.now.items ++ text ∷ []) c.in_ok-of.ensures

pub returns-clause-rule : goal.returns-clause-rule
returns-clause-rule c rule =
    let all = All-push (λ text. IsTrue (is_label text)) c.args.all.now.items c.args.text.now rule c.requires in
    subst AreLabels (sym (returns-clause-added c)) all

use Rattle.std.proofs.Common.{◌∷◌, [], ◌++◌, codes, ap, ◌∙◌}
use Rattle.line_graph.proofs.LabelTexts.{is_label-machine}
use Rattle.line_graph.proofs.labels.add_machine_label.Goals as goal

pub add_label-requires : goal.add_label-requires
add_label-requires c =
    let stage = c.text.result.now in
    let machine = c.text-2.result.now in
    let dotted = c.in_ok-push.ensures.items ∙ ap (λ text. text ++ codes ".") c.in_ok-text.ensures.items in
    let all = c.in_ok-extend_from_slice.ensures.items ∙ ap (λ text. text ++ machine) dotted in
    rw (c.as_slice.ensures.value ∙ all) (is_label-machine stage machine c.text.ensures.rule c.text-2.ensures.rule)

pub returns-clause-added : goal.returns-clause-added
returns-clause-added c =
    let dotted = c.in_ok-push.ensures.items ∙ ap (λ text. text ++ codes ".") (c.in_ok-text.ensures.items ∙ c.text.ensures.text) in
    let all = c.in_ok-extend_from_slice.ensures.items ∙ ap (λ text. text ++ c.text-2.result.now) dotted in
    let named = ap (λ name. c.args.stage.now ++ codes "." ++ name) c.text-2.ensures.text in
    c.in_ok-add_label.ensures.added ∙ ap (λ text. c.args.all.now.items ++ text ∷ []) (c.as_slice.ensures.value ∙ all ∙ named)

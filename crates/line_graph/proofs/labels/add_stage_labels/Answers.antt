use Rattle.std.proofs.Common.{◌++◌, codes, List, [], ◌∷◌, map, ap, ◌∙◌}
use Rattle.plant_model.specs.Stages.{Machine}
use Rattle.line_graph.proofs.LabelTexts.{is_label-name, labels_more}
use Rattle.std.proofs.lemmas.List.{take_all}
use Rattle.line_graph.proofs.labels.add_stage_labels.Goals as goal

pub add_label-requires : goal.add_label-requires
add_label-requires c = is_label-name c.text.result.now c.text.ensures.rule

pub loop-machine-preserved : goal.loop-machine-preserved
loop-machine-preserved c =
    let stage = c.args.stage.now in
    let below = rw c.as_slice-machine-items.ensures at c.loop-machine-test.true in
    let read = rw c.as_slice-machine-items.ensures at c.machine-item.is in
    let label = λ (m : Machine). stage.name ++ codes "." ++ m.name in
    (labels_more c.args.all.now.items stage.name label stage.machines c.machine-item.result c.loop-machine.machine-index c.loop-machine.all.items _ c.loop-machine.invariant.0 below read c.in_ok-add_machine_label.ensures.added, λ rule. c.in_ok-add_machine_label.ensures.rule (c.loop-machine.invariant.1 rule))

pub loop-machine-init : goal.loop-machine-init
loop-machine-init c =
    let first = ap (λ text. c.args.all.now.items ++ text ∷ []) c.text.ensures.text in
    (c.in_ok-add_label.ensures.added ∙ first, c.in_ok-add_label.ensures.rule)

pub returns-clause-added : goal.returns-clause-added
returns-clause-added c =
    let stage = c.args.stage.now in
    let label = λ (m : Machine). stage.name ++ codes "." ++ m.name in
    let past = rw c.as_slice-machine-items.ensures at c.loop-machine-test.false in
    let whole = take_all c.loop-machine.machine-index stage.machines past in
    c.loop-machine.invariant.0
    ∙ ap (λ (ms : List Machine). c.args.all.now.items ++ (stage.name ∷ map label ms)) whole

pub returns-clause-rule : goal.returns-clause-rule
returns-clause-rule c = c.loop-machine.invariant.1

use Rattle.std.proofs.Common.{ℕ, List, [], ◌∷◌, ◌++◌, codes, sym, ap, ◌∙◌, subst, arith}
use Rattle.std.specs.List.{flat_map}
use Rattle.std.proofs.lemmas.List.{take_all}
use Rattle.plant_model.specs.Stages.{Stage}
use Rattle.plant_model.specs.Graph.{labels, stage_labels}
use Rattle.line_graph.specs.Labels.{AreLabels}
use Rattle.line_graph.proofs.Pieces.{pieces_more}
use Rattle.line_graph.proofs.labels.fill_labels.Goals as goal

-- no text is a label that isn't one
no_labels : AreLabels []
no_labels k d low = absurd (omega (arith, low))

pub loop-stage-init : goal.loop-stage-init
loop-stage-init c = (
  c.in_ok-add_label.ensures.added ∙ ap (λ (l : List (List ℕ)). l ++ codes "feed" ∷ []) c.requires,
  c.in_ok-add_label.ensures.rule (subst AreLabels (sym c.requires) no_labels),
)

pub loop-stage-preserved : goal.loop-stage-preserved
loop-stage-preserved c =
    let at = c.loop-stage in
    let below = rw c.as_slice-stage-items.ensures at c.loop-stage-test.true in
    let read = rw c.as_slice-stage-items.ensures at c.stage-item.is in (
      pieces_more stage_labels (codes "feed" ∷ []) c.args.plant.now.stages c.stage-item.result at.stage-index at.all.items _ at.invariant.0 below read c.in_ok-add_stage_labels.ensures.added,
      c.in_ok-add_stage_labels.ensures.rule at.invariant.1,
    )

pub returns : goal.returns
unfolding labels
returns c =
    let all = rw c.as_slice-stage-items.ensures at c.loop-stage-test.false in
    let made = c.loop-stage.invariant.0 ∙ ap (λ (stages : List Stage). codes "feed" ∷ flat_map stage_labels stages) (take_all c.loop-stage.stage-index c.args.plant.now.stages all) in
    record {
      all = c.in_ok-add_label-2.ensures.added ∙ ap (λ (l : List (List ℕ)). l ++ codes "deliver" ∷ []) made;
      rule = c.in_ok-add_label-2.ensures.rule c.loop-stage.invariant.1;
    }

use Rattle.std.proofs.Common.{List, [], ◌∷◌, ◌++◌, ap, ◌∙◌}
use Rattle.std.specs.List.{flat_map}
use Rattle.std.proofs.lemmas.List.{take_all}
use Rattle.line_base.specs.declared.times.Times.{Times}
use Rattle.line_base.specs.declared.times.Times.TheVariants.{Fixed}
use Rattle.plant_model.specs.Stages.{Stage}
use Rattle.plant_model.specs.Graph.{times, stage_times}
use Rattle.line_graph.proofs.Pieces.{pieces_more}
use Rattle.line_graph.proofs.times.fill_times.Goals as goal

pub loop-stage-init : goal.loop-stage-init
loop-stage-init c = c.in_ok-push.ensures.items ∙ ap (λ (l : List Times). l ++ Fixed 0 ∷ []) c.requires

pub loop-stage-preserved : goal.loop-stage-preserved
loop-stage-preserved c =
    let at = c.loop-stage in
    let below = rw c.as_slice-stage-items.ensures at c.loop-stage-test.true in
    let read = rw c.as_slice-stage-items.ensures at c.stage-item.is in
    pieces_more stage_times (Fixed 0 ∷ []) c.args.plant.now.stages c.stage-item.result at.stage-index at.all.items _ at.invariant below read c.in_ok-add_stage_times.ensures

pub returns : goal.returns
unfolding times
returns c =
    let all = rw c.as_slice-stage-items.ensures at c.loop-stage-test.false in
    let made = c.loop-stage.invariant ∙ ap (λ (stages : List Stage). Fixed 0 ∷ flat_map stage_times stages) (take_all c.loop-stage.stage-index c.args.plant.now.stages all) in
    c.in_ok-push-2.ensures.items ∙ ap (λ (l : List Times). l ++ Fixed 0 ∷ []) made

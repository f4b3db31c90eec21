use Rattle.std.proofs.Common.{ℕ, List, [], ◌∷◌, ◌++◌, ap, ◌∙◌, append_assoc}
use Rattle.std.specs.List.{flat_map}
use Rattle.std.proofs.lemmas.List.{take_all}
use Rattle.plant_model.specs.Stages.{Stage}
use Rattle.line_graph.proofs.Pieces.{pieces_more}
use Rattle.line_graph.proofs.delays.demand_and_card_times.Goals as goal

-- the delays of a stage's two arcs
abbrev two : Stage → List ℕ
two s = 0 ∷ s.card_time ∷ []

pub loop-stage-preserved : goal.loop-stage-preserved
loop-stage-preserved c =
    let at = c.loop-stage in
    let stage = c.stage-item.result in
    let both =
    c.in_ok-push-2.ensures.items
    ∙ ap (λ (l : List ℕ). l ++ stage.card_time ∷ []) c.in_ok-push.ensures.items
    ∙ append_assoc at.times.items (0 ∷ []) (stage.card_time ∷ []) in
    pieces_more two [] c.args.stages.now stage at.stage-index at.times.items _ at.invariant c.loop-stage-test.true c.stage-item.is both

pub returns : goal.returns
returns c =
    c.loop-stage.invariant ∙ ap (λ (stages : List Stage). flat_map two stages) (take_all c.loop-stage.stage-index c.args.stages.now c.loop-stage-test.false)

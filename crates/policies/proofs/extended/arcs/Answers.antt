use Rattle.std.proofs.Common.{◌≡◌, ◌<◌, ◌≤◌, ◌∷◌, [], ◌++◌, length, get_or, subst, sym, ap, ◌∙◌, arith}
use Rattle.std.proofs.lemmas.List.{get_or_default, append_assoc}
use Rattle.plant_model.specs.Stages.{Stage}
use Rattle.plant_model.specs.Line.{no_stage, stage_at, starting}
use Rattle.plant_model.specs.Graph.{demand_row, card_row}
use Rattle.plant_model.proofs.SoundPlants.{starting-has_cards}
use Rattle.plant_model.proofs.RowLists.{rows_more}
use Rattle.policies.proofs.ExtendedRows.{stage_rows}
use Rattle.policies.proofs.extended.arcs.Goals as goal
use Rattle.policies.proofs.extended.arcs.Goals.{After-push}

-- the stage in hand is the plant's stage of this number
stage_is : (c : After-push) → (c.loop-number.number < length c.args.plant.now.stages) × (c.stage-item.result ≡ stage_at c.args.plant.now c.loop-number.number)
stage_is c =
    let stages = c.as_slice-stage-items.ensures in
    let below : c.loop-number.number < length c.args.plant.now.stages = omega (arith, ap length stages) in
    let read = rw stages at c.stage-item.is in
    (below, read ∙ get_or_default c.args.plant.now.stages c.loop-number.number c.stage-item.result no_stage below)

pub overflow_sub-free : goal.overflow_sub-free
overflow_sub-free c =
    let h = stage_is (goal.at.overflow_sub-free c).After-push in
    let p = c.args.plant.now in
    let least = starting-has_cards p c.loop-number.number c.requires.sound c.requires.policy h.0 in
    rw (c.starting.ensures, c.in_ok-layout.ensures, h.1) least

pub loop-number-preserved : goal.loop-number-preserved
loop-number-preserved c =
    let h = stage_is (goal.at.loop-number-preserved c).After-push in
    let p = c.args.plant.now in
    let i = c.loop-number.number in
    let demand = rw c.in_ok-layout.ensures at c.demand_arc.ensures in
    let card = rw (c.starting.ensures, c.in_ok-layout.ensures, h.1) at c.card_arc.ensures in
    let pushed = c.in_ok-push-2.ensures.items ∙ ap (λ arcs. arcs ++ c.card_arc.result ∷ []) c.in_ok-push.ensures.items in
    let joined = append_assoc c.loop-number.arcs.items (c.demand_arc.result ∷ []) (c.card_arc.result ∷ []) in
    let both = ap (λ a. a ∷ c.card_arc.result ∷ []) demand ∙ ap (λ a. (demand_row p i).arc ∷ a ∷ []) card in
    pushed ∙ joined ∙ rows_more (λ r. r.arc) (stage_rows p) _ _ i c.loop-number.invariant both

use Rattle.std.proofs.Common.{◌≡◌, ◌∙◌, length, ap, sym, arith}
use Rattle.plant_model.specs.declared.plant.Plant.{Plant}
use Rattle.plant_model.specs.Line.{is_first}
use Rattle.plant_model.specs.Graph.{line_card_row}
use Rattle.plant_model.proofs.SoundPlants.{path_stock-has_cards}
use Rattle.plant_model.proofs.RowLists.{passing_row_more, failing_row_more}
use Rattle.policies.proofs.conwip.arcs.Goals as goal
use Rattle.policies.proofs.conwip.arcs.Goals.{then-is_first+in_ok-push, else-is_first}

pub line_card_arc-requires-clause-enough : goal.line_card_arc-requires-clause-enough
line_card_arc-requires-clause-enough c =
    let p = c.args.plant.now in
    let first = rw c.in_ok-layout.ensures at c.is_first.ensures in
    rw c.in_ok-layout.ensures (path_stock-has_cards p c.loop-stage.stage c.in-Conwip.cards c.requires.sound c.in-Conwip.is (omega (arith, ap (λ (q : Plant). length q.stages) c.in_ok-layout.ensures)) (sym first ∙ c.if-is_first.true))

pub loop-stage-preserved : goal.loop-stage-preserved
loop-stage-preserved c =
    let p = c.args.plant.now in
    let first = rw c.in_ok-layout.ensures at c.is_first.ensures in
    elim c.if-is_first.branch [
      | then-is_first+in_ok-push w ↦
          let arc = rw c.in_ok-layout.ensures at w.line_card_arc.ensures in
          rw w.arcs-is (w.in_ok-push.ensures.items ∙ passing_row_more (λ r. r.arc) (line_card_row p) (is_first p) _ _ c.loop-stage.stage c.loop-stage.invariant (sym first ∙ w.if-is_first.true) arc)
      | else-is_first w ↦ rw w.arcs-is (failing_row_more (λ r. r.arc) (line_card_row p) (is_first p) _ c.loop-stage.stage c.loop-stage.invariant (sym first ∙ w.if-is_first.false))
    ]

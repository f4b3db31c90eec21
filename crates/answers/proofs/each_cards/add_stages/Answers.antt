use Rattle.answers.specs.EachCardsText.{stage_line}
use Rattle.answers.proofs.SinkLines.{item_more}
use Rattle.answers.proofs.each_cards.add_stages.Goals as goal

pub loop-stage-preserved : goal.loop-stage-preserved
loop-stage-preserved c =
    item_more stage_line c.args.stages.now c.loop-stage.stage-index _ c.stage-item.result
    c.args.text.now.items c.loop-stage.text.items c.add_stage.new.text.items
    c.loop-stage-test.true c.stage-item.is c.loop-stage.invariant c.in_ok-add_stage.ensures

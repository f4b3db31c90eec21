use Rattle.std.proofs.Common.{◌≡◌, length, ap, ◌∙◌, arith}
use Rattle.plant_model.specs.Line.{path_stock}
use Rattle.line_chart.proofs.StageRuns.{stocks-more}
use Rattle.line_chart.proofs.stocks.stocks_on.Goals as goal

pub loop-stage-preserved : goal.loop-stage-preserved
loop-stage-preserved c =
    stocks-more c.args.plant.now c.loop-stage.stage c.loop-stage.stocks.items _ _ c.loop-stage.invariant c.in_ok-push.ensures.items
    (c.stock.ensures ∙ ap (λ p. path_stock p c.loop-stage.stage) c.requires)

pub loop-stage-init : goal.loop-stage-init
loop-stage-init c = c.in_ok-stocks.ensures.items

pub returns : goal.returns
returns c =
    let all : c.loop-stage.stage ≡ length c.args.plant.now.stages = omega arith in
    rw all at c.loop-stage.invariant

use Rattle.std.proofs.Common.{◌∙◌}
use Rattle.plant_model.proofs.Paths.{WalksPath-begins, WalksPath-goes, stages_left-falls}
use Rattle.plant_model.proofs.line.stock_on_path.Goals as goal

pub loop-next-init : goal.loop-next-init
loop-next-init c =
    WalksPath-begins c.args.plant.now c.requires.later c.args.from c.requires.exists _ _
    (c.from-stock.ensures ∙ c.starting_stock.ensures) (rw c.from-stock.ensures c.starting_stock.type_inv) c.next_stage-next.ensures

pub loop-next-smaller : goal.loop-next-smaller
loop-next-smaller c =
    stages_left-falls c.args.plant.now c.requires.later c.loop-next.next c.in-Some.i _ c.in-Some.is
    (c.loop-next.invariant.there c.in-Some.i c.in-Some.is) c.next_stage-next-in-Some.ensures

pub loop-next-preserved : goal.loop-next-preserved
loop-next-preserved c =
    WalksPath-goes c.args.plant.now c.requires.later c.args.from c.loop-next.stock c.loop-next.next c.in-Some.i _ _
    c.loop-next.invariant c.in-Some.is (c.from-stock-in-Some.ensures ∙ c.starting_stock-in-Some.ensures)
    (rw c.from-stock-in-Some.ensures c.starting_stock-in-Some.type_inv) c.next_stage-next-in-Some.ensures

use Rattle.std.proofs.Common.{◌∙◌, ne_eqb}
use Rattle.plant_model.proofs.Paths.{WalksTo-goes, stages_left-falls}
use Rattle.plant_model.proofs.line.stock_up_to.Goals as goal

pub loop-next-smaller : goal.loop-next-smaller
loop-next-smaller c =
    stages_left-falls c.args.plant.now c.requires.later c.loop-next.next c.in-Some.i _ c.in-Some.is
    (c.loop-next.invariant.there c.in-Some.i c.in-Some.is) c.next_stage-next.ensures

pub loop-next-preserved : goal.loop-next-preserved
loop-next-preserved c =
    WalksTo-goes c.args.plant.now c.requires.later c.args.from c.args.to c.loop-next.stock c.loop-next.next c.in-Some.i _ _
    c.loop-next.invariant c.in-Some.is (c.from-stock.ensures ∙ c.starting_stock.ensures)
    (rw c.from-stock.ensures c.starting_stock.type_inv) (ne_eqb c.in-Some.i c.args.to c.if-i-to.false) c.next_stage-next.ensures

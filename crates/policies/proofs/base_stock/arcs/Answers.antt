use Rattle.std.proofs.Common.{◌∙◌}
use Rattle.plant_model.specs.Graph.{demand_row}
use Rattle.plant_model.proofs.RowLists.{row_more}
use Rattle.policies.proofs.base_stock.arcs.Goals as goal

pub loop-stage-preserved : goal.loop-stage-preserved
loop-stage-preserved c =
    let arc = rw c.in_ok-layout.ensures at c.demand_arc.ensures in
    c.in_ok-push.ensures.items ∙ row_more (λ r. r.arc) (demand_row c.args.plant.now) _ _ c.loop-stage.stage c.loop-stage.invariant arc

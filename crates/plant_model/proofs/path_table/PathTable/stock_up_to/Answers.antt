use Rattle.std.proofs.Common.{◌∙◌, ◌<◌, length, Some, ap, sym, arith}
use Rattle.plant_model.proofs.Soundness.{FeedsLater-from}
use Rattle.plant_model.proofs.PathTables.{IsPathTable-same, row-read, is_downstream-exists, IsBetween, IsBetween-from}
use Rattle.plant_model.proofs.path_table.PathTable.stock_up_to.Goals.{After-from-own, After-index-2}
use Rattle.plant_model.proofs.path_table.PathTable.stock_up_to.Goals as goal

-- the last stage is on the path, so it exists
there : (c : After-from-own) → c.args.to < length c.args.self.now.stages
there c =
    let p = c.args.self.now in
    let table = IsPathTable-same p _ _ _ c.self.view_is c.self.invariant in
    is_downstream-exists p (FeedsLater-from p table.later) c.args.from c.args.to c.requires (sym c.if-not-is_downstream.ensures)

-- what the two rows say of the stock between the stages
between : (c : After-index-2) → IsBetween c.args.self.now c.args.from c.args.to c.index.result.now.stock c.index-2.result.now.stock c.from-own.result
between c =
    let p = c.args.self.now in
    let table = IsPathTable-same p _ _ _ c.self.view_is c.self.invariant in
    let row = row-read p _ _ c.args.from c.index.result.now table c.requires c.index.ensures in
    let found = sym c.if-not-is_downstream.ensures in
    let there = is_downstream-exists p (FeedsLater-from p table.later) c.args.from c.args.to c.requires found in
    let row_2 = row-read p _ _ c.args.to c.index-2.result.now table there c.index-2.ensures in
    let own = rw c.self.view_is at (c.from-own.ensures ∙ c.starting_stock.ensures) in
    IsBetween-from p (FeedsLater-from p table.later) c.args.from c.args.to _ _ _ c.requires found row.stock row_2.stock own

pub starting_stock-requires : goal.starting_stock-requires
starting_stock-requires c =
    let p = c.args.self.now in
    let table = IsPathTable-same p _ _ _ c.self.view_is c.self.invariant in
    let found = sym c.if-not-is_downstream.ensures in
    rw c.self.view_is (is_downstream-exists p (FeedsLater-from p table.later) c.args.from c.args.to c.requires found)

pub index-requires-2 : goal.index-requires-2
index-requires-2 c =
    let table = IsPathTable-same c.args.self.now _ _ _ c.self.view_is c.self.invariant in
    omega (arith, there (goal.at.index-requires-2 c).After-from-own, table.rows_right.long, c.self.inside.rows.ok.0)

pub overflow_sub-result : goal.overflow_sub-result
overflow_sub-result c = (between (goal.at.overflow_sub-result c).After-index-2).less

pub overflow_add-result : goal.overflow_add-result
overflow_add-result c = let between = between (goal.at.overflow_add-result c).After-index-2 in omega (arith, between.less, between.own_in_rest)

pub returns : goal.returns
returns c = rw (sym c.if-not-is_downstream.ensures) (ap Some (between (goal.at.returns c).After-index-2).between)

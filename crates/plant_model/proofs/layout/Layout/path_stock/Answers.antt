use Rattle.std.proofs.Common.{subst, arith}
use Rattle.plant_model.proofs.Soundness.{IsSound-Parts}
use Rattle.plant_model.proofs.LayoutPaths.{path_stock-small}
use Rattle.plant_model.specs.Sound.{IsSound}
use Rattle.plant_model.proofs.layout.Layout.path_stock.Goals as goal

pub stock_on_path-requires-clause-later : goal.stock_on_path-requires-clause-later
stock_on_path-requires-clause-later c = (IsSound-Parts c.self.invariant.sound).later

pub overflow_cast-result : goal.overflow_cast-result
overflow_cast-result c =
    let p = c.args.self.now in
    let stock = rw c.self.view_is at c.stock_on_path.ensures in
    omega (arith, path_stock-small p c.args.stage (subst IsSound c.self.view_is c.self.invariant.sound) c.requires)

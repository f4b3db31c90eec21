use Rattle.std.proofs.Common.{subst, arith}
use Rattle.plant_model.proofs.Soundness.{IsSound-Parts}
use Rattle.plant_model.proofs.LayoutPaths.{some-stock, stock_between-small}
use Rattle.plant_model.specs.Sound.{IsSound}
use Rattle.plant_model.proofs.layout.Layout.stock_between.Goals as goal

pub stock_up_to-requires-clause-later : goal.stock_up_to-requires-clause-later
stock_up_to-requires-clause-later c = (IsSound-Parts c.self.invariant.sound).later

pub overflow_cast-result : goal.overflow_cast-result
overflow_cast-result c =
    let p = c.args.self.now in
    let sound = subst IsSound c.self.view_is c.self.invariant.sound in
    let is = some-stock p c.args.first c.args.last _ _ c.in-Some.is (rw c.self.view_is at c.stock_up_to.ensures) c.requires.last in
    omega (arith, stock_between-small p c.args.first c.args.last sound c.requires.first)

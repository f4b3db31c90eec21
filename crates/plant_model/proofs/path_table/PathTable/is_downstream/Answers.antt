use Rattle.std.proofs.Common.{◌∙◌, Some, sym, arith}
use Rattle.plant_model.proofs.Soundness.{FeedsLater-from}
use Rattle.plant_model.proofs.PathTables.{IsPathTable-same, row-read, is_downstream-jump, is_downstream-next, is_downstream-end}
use Rattle.plant_model.proofs.path_table.PathTable.is_downstream.Goals as goal

pub loop-stage-preserved-then-jump-to : goal.loop-stage-preserved-then-jump-to
loop-stage-preserved-then-jump-to c =
    let p = c.args.self.now in
    let table = IsPathTable-same p _ _ _ c.self.view_is c.self.invariant in
    let row = row-read p _ _ c.loop-stage.stage c.index.result.now table c.loop-stage.invariant.0 c.index.ensures in
    (row.exists, sym (is_downstream-jump p table.later c.loop-stage.stage c.index.result.now.jump c.args.to c.loop-stage.invariant.0 row.on_path c.if-jump-to.true) ∙ c.loop-stage.invariant.1)

pub loop-stage-smaller : goal.loop-stage-smaller
loop-stage-smaller c =
    let p = c.args.self.now in
    let table = IsPathTable-same p _ _ _ c.self.view_is c.self.invariant in
    let fed = rw c.self.view_is at c.in-Some.ensures in
    let later = (FeedsLater-from p table.later).later c.loop-stage.stage c.in-Some.next c.loop-stage.invariant.0 (sym fed) in
    omega (arith, later)

pub loop-stage-preserved : goal.loop-stage-preserved
loop-stage-preserved c =
    let p = c.args.self.now in
    let table = IsPathTable-same p _ _ _ c.self.view_is c.self.invariant in
    let fed = rw c.self.view_is at c.in-Some.ensures in
    let tree = FeedsLater-from p table.later in (
      tree.exists c.loop-stage.stage c.in-Some.next c.loop-stage.invariant.0 (sym fed),
      sym (is_downstream-next p table.later c.loop-stage.stage c.args.to (Some c.in-Some.next) c.loop-stage.invariant.0 c.loop-stage-test.true fed)
          ∙ c.loop-stage.invariant.1,
    )

pub returns : goal.returns
returns c =
    let p = c.args.self.now in
    let table = IsPathTable-same p _ _ _ c.self.view_is c.self.invariant in
    sym (is_downstream-end p table.later c.loop-stage.stage c.args.to c.loop-stage.invariant.0 c.loop-stage-test.false) ∙ c.loop-stage.invariant.1

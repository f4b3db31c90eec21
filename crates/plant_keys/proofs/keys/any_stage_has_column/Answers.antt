use Rattle.std.proofs.Common.{sym, refl, arith}
use Rattle.std.proofs.lemmas.List.{take_all}
use Rattle.std.proofs.lemmas.List.Folds.{list_any_at, list_any_more}
use Rattle.toml.specs.View.{view}
use Rattle.plant_keys.specs.Keys.{stage_has_column}
use Rattle.plant_keys.proofs.keys.any_stage_has_column.Goals as goal

pub loop-stage-init : goal.loop-stage-init
loop-stage-init c = refl

pub returns-then-stage_has_column : goal.returns-then-stage_has_column
returns-then-stage_has_column c =
    sym
    (list_any_at (λ s. stage_has_column (view s)) c.args.stages.now c.loop-stage.stage-index c.stage-item.result (omega arith)
    (rw (← c.stage-item.is) (sym c.if-stage_has_column.ensures)))

pub loop-stage-preserved : goal.loop-stage-preserved
loop-stage-preserved c =
    rw (list_any_more (λ s. stage_has_column (view s)) c.args.stages.now c.loop-stage.stage-index c.stage-item.result (omega arith), c.loop-stage.invariant, ← c.stage-item.is)
    (sym c.if-stage_has_column.ensures)

pub returns : goal.returns
returns c = sym (rw (take_all c.loop-stage.stage-index c.args.stages.now (omega arith)) at c.loop-stage.invariant)

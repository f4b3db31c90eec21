use Rattle.std.proofs.Common.{refl, ◌∙◌}
use Rattle.plant_file.specs.Finish.{stage_with}
use Rattle.plant_file.proofs.Built.{built_push}
use Rattle.plant_file.proofs.finish.TimesSource.stages.Goals as goal

pub loop-stage-init : goal.loop-stage-init
loop-stage-init c = c.in_ok-made.ensures.items

pub loop-stage-preserved : goal.loop-stage-preserved
loop-stage-preserved c =
    c.in_ok-add_stage.ensures
    ∙ built_push (stage_with c.args.self.now.table.now) c.loop-stage.yielded c.in-Some.stage _ _ c.loop-stage.invariant refl

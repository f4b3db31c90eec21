use Rattle.std.proofs.Common.{◌∙◌}
use Rattle.toml.specs.View.{view}
use Rattle.plant_file.specs.Reading.{stage_of}
use Rattle.plant_file.proofs.Built.{built_more, built_all}
use Rattle.plant_file.proofs.build.stages_of.Goals as goal

pub loop-stage-init : goal.loop-stage-init
loop-stage-init c = c.in_ok-drafts.ensures.items

pub loop-stage-preserved : goal.loop-stage-preserved
loop-stage-preserved c =
    c.in_ok-push.ensures ∙ built_more
    (λ s. stage_of c.args.names.now (view s))
    c.args.stages.now c.loop-stage.stage-index c.stage-item.result _ _ c.loop-stage.invariant c.loop-stage-test.true c.stage-item.is c.in_ok-stage_of.ensures

pub returns : goal.returns
returns c =
    c.from_vec.ensures ∙ built_all (λ s. stage_of c.args.names.now (view s)) c.args.stages.now c.loop-stage.stage-index _ c.loop-stage.invariant c.loop-stage-test.false
